use Rattle.work_pool.specs.Workers.{IsIdle}
use Rattle.work_pool.proofs.turns.worker.Given as goal

-- the pass is one of the database, with no open job
abbrev pub invariant-loop : goal.invariant-loop
invariant-loop g l = IsIdle l.db l.pass
