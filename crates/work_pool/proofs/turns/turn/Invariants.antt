use Rattle.std.proofs.Common.{◌≡◌, ◌≤◌}
use Rattle.summary_db.specs.Passes.{view}
use Rattle.work_pool.specs.Workers.{IsIdle, SawAll}
use Rattle.work_pool.proofs.turns.turn.Given as goal

-- where as many were published as were visited, each of these was seen
abbrev pub invariant-loop-function : goal.invariant-loop-function
invariant-loop-function g l =
    record {
      idle : IsIdle l.db l.pass;
      few : l.published ≤ l.function;
      seen : l.published ≡ l.function → SawAll l.function (view l.pass);
    }
