use Rattle.std.proofs.Common.{Bool, [], refl, sym, subst}
use Rattle.sc_rules.specs.declared.walk.Walk.{Walk}
use Rattle.sc_rules.specs.Gives.{Gives}
use Rattle.sc_statements.proofs.Kept.{differ_same}
use Rattle.sc_statements.proofs.choices.choices_differ.Goals as goal

pub returns : goal.returns
returns c =
    subst (λ (due : Bool × Walk). Gives due c.differ.result c.differ.new.walk)
    (sym (differ_same c.args.items.now [] [] (λ d. refl) c.args.walk.now)) c.differ.ensures
