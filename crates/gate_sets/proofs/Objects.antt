-- The pointer to an object that comes with a call.
use Rattle.std.proofs.Common.{◌≡◌, ℕ, ◌+◌, List, subst}
use Rattle.std.specs.Prelude.{Option, Some, None}
use Rattle.bit_net.specs.declared.nodes.Node.{Node}
use Rattle.bit_net.specs.Runs.{Always}
use Rattle.gl_sets.specs.declared.pairs.Pair.{Pair}
use Rattle.gl_sets.specs.Guards.{Points}
use Rattle.gl_sets.specs.Sets.{IsGood}
use Rattle.gate_sets.specs.Writing.{IsObject}

pub object_none : (ns : List Node) (pairs : List Pair) → IsGood ns pairs → Always ns (λ choice v. Points v pairs 0) → IsObject ns None pairs
object_none ns pairs good points = record { below = good.below; points = λ choice v runs. points.holds choice v runs }

pub object_some : (ns : List Node) (at target : ℕ) (pairs : List Pair) → target ≡ at + 1 → IsGood ns pairs → Always ns (λ choice v. Points v pairs target)
    → IsObject ns (Some at) pairs
object_some ns at target pairs e good points =
    record { below = good.below; points = λ choice v runs. subst (Points v pairs) e (points.holds choice v runs) }
