-- Construct by construct.
use Rattle.std.proofs.Common.{[]}
use Rattle.sc_world.specs.World.{entry_world, ◌>>=◌}
use Rattle.sc_world.specs.Eval as eval
use Rattle.sc_world.specs.Exec as exec
use Rattle.run_laws.specs.Proper.{IsProper, PointsInside}
use Rattle.run_laws.proofs.Steps.{Inside, world_kept, value_given}
use Rattle.run_laws.proofs.Places.{inside_points}
use Rattle.run_laws.proofs.Stores.{proper_rules, no_temps}
use Rattle.run_laws.proofs.Entry.{entry_proper}
use Rattle.run_laws.proofs.Expressions.{evaluates}
use Rattle.run_laws.proofs.Statements.{FlowHas, executes_inside, runs_inside}
use Rattle.run_laws.proofs.laws.worlds_stay_proper.Goals as goal

pub returns-clause-entry : goal.returns-clause-entry
returns-clause-entry c s p choice whole closed = entry_proper s choice p whole closed

pub returns-clause-expressions : goal.returns-clause-expressions
returns-clause-expressions c env e want whole closed inside w h =
    world_kept (IsProper env.source env.layout) (Inside env.layout) (eval.eval e want env)
    (evaluates env.source env.layout env.choice env.temps (IsProper env.source env.layout)
    (proper_rules env.source env.layout env.temps whole closed inside) e want env.turn) w h

pub returns-clause-statements : goal.returns-clause-statements
returns-clause-statements c env x whole closed inside w h =
    world_kept (IsProper env.source env.layout)
    (FlowHas env.source env.layout env.choice env.temps (IsProper env.source env.layout)
    (proper_rules env.source env.layout env.temps whole closed inside) (Inside env.layout)) (exec.exec x env)
    (executes_inside env.source env.layout env.choice env.temps (IsProper env.source env.layout)
    (proper_rules env.source env.layout env.temps whole closed inside) x env.turn) w h

pub returns-clause-runs : goal.returns-clause-runs
returns-clause-runs c s p choice whole closed =
    world_kept (IsProper s p) (Inside p) (exec.exec s.body (exec.env_of s p choice) >>= exec.finished s)
    (runs_inside s p choice [] (IsProper s p) (proper_rules s p [] whole closed (no_temps p)))
    (entry_world s p choice) (entry_proper s choice p whole closed)

pub returns-clause-values : goal.returns-clause-values
returns-clause-values c env e want w whole closed inside some h =
    value_given (IsProper env.source env.layout) (Inside env.layout) (PointsInside env.layout)
    (λ d hd. inside_points env.layout d some hd) (eval.eval e want env)
    (evaluates env.source env.layout env.choice env.temps (IsProper env.source env.layout)
    (proper_rules env.source env.layout env.temps whole closed inside) e want env.turn) w h

pub returns-clause-results : goal.returns-clause-results
returns-clause-results c s p choice whole closed some =
    value_given (IsProper s p) (Inside p) (PointsInside p) (λ d hd. inside_points p d some hd)
    (exec.exec s.body (exec.env_of s p choice) >>= exec.finished s)
    (runs_inside s p choice [] (IsProper s p) (proper_rules s p [] whole closed (no_temps p)))
    (entry_world s p choice) (entry_proper s choice p whole closed)
