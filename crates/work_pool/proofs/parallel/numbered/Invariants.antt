use Rattle.std.proofs.Common.{◌≡◌, ◌+◌, vec_len}
use Rattle.std.specs.List.{All}
use Rattle.work_pool.specs.Workers.{IsIdle}
use Rattle.work_pool.proofs.parallel.numbered.Given as goal

-- the passes so far have their desks
abbrev pub invariant-loop-pass : goal.invariant-loop-pass
invariant-loop-pass g l =
    record {
      many : vec_len l.desks + vec_len l.passes ≡ vec_len l.fn.passes;
      left : All (IsIdle l.db) l.passes.items;
      idle : All (λ desk. IsIdle l.db desk.pass) l.desks.items;
    }

abbrev pub decreases-loop-pass : goal.decreases-loop-pass
decreases-loop-pass g l = vec_len l.passes
