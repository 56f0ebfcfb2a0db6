use Rattle.std.proofs.Common.{◌≡◌, ℕ, map, take}
use Rattle.std.specs.List.{All}
use Rattle.std.specs.Arc.{arc_value}
use Rattle.work_pool.specs.Outputs.{IsMade}
use Rattle.work_pool.proofs.outputs.shared_all.Given as goal

-- the outputs of the functions passed
abbrev pub invariant-loop-function : goal.invariant-loop-function
invariant-loop-function g l =
    (defined : ℕ → g.row.O.Denot) → All (IsMade defined l.made) l.functions
    → map arc_value l.list.items ≡ map defined (take l.function-index l.functions)
