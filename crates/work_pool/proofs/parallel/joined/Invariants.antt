use Rattle.std.proofs.Common.{length, vec_len}
use Rattle.std.specs.List.{All}
use Rattle.summary_db.specs.Passes.{rows_of, view}
use Rattle.work_pool.specs.Workers.{IsIdle, SawAll, HasCause}
use Rattle.work_pool.proofs.parallel.joined.Given as goal

-- the pass saw every function published
abbrev pub invariant-loop-other : goal.invariant-loop-other
invariant-loop-other g l =
    record {
      idle : IsIdle l.db l.pass;
      saw : SawAll (length (rows_of l.db)) (view l.pass);
      left : All (λ e. IsIdle l.db e.0 × HasCause (length (rows_of l.db)) e.0 e.1) l.ended.items;
    }

abbrev pub decreases-loop-other : goal.decreases-loop-other
decreases-loop-other g l = vec_len l.ended
