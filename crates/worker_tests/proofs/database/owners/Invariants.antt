use Rattle.std.proofs.Common.{◌≡◌, vec_len}
use Rattle.std.specs.List.{All}
use Rattle.std.specs.Arc.{arc_value}
use Rattle.worker_tests.proofs.database.owners.Given as goal

-- so many owners
abbrev pub invariant-loop-turn : goal.invariant-loop-turn
invariant-loop-turn g l = (vec_len l.list ≡ l._turn) × All (λ row. arc_value row ≡ arc_value l.output) l.list.items
