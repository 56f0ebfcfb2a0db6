-- Construct by construct.
use Rattle.sc_world.specs.Tree.{type_of}
use Rattle.sc_world.specs.Eval as eval
use Rattle.run_laws.specs.Proper.{IsProper}
use Rattle.run_laws.specs.Fits.{IsValueOf, IsPlaceOf}
use Rattle.run_laws.proofs.Steps.{value_given}
use Rattle.run_laws.proofs.Typed.{typed}
use Rattle.run_laws.proofs.laws.values_are_of_their_types.Goals as goal

pub returns-clause-values : goal.returns-clause-values
returns-clause-values c env e w whole closed inside fits h =
    value_given (IsProper env.source env.layout) (IsValueOf env.source (type_of e)) (IsValueOf env.source (type_of e))
    (λ d hd. hd) (eval.eval e eval.Value env)
    (typed env.source env.layout env.choice env.temps whole closed inside e eval.Value env.turn fits) w h

pub returns-clause-places : goal.returns-clause-places
returns-clause-places c env e w whole closed inside fits h =
    value_given (IsProper env.source env.layout) (IsPlaceOf env.layout (type_of e)) (IsPlaceOf env.layout (type_of e))
    (λ d hd. hd) (eval.eval e eval.Place' env)
    (typed env.source env.layout env.choice env.temps whole closed inside e eval.Place' env.turn fits) w h
