use Rattle.std.proofs.Common.{◌≡◌, ℕ, [], ◌++◌, drop, slice_index_or}
use Rattle.file_tables.specs.Own.{own_bodies}
use Rattle.file_tables.proofs.own.add_bodies.Given as goal

abbrev pub invariant-loop-body : goal.invariant-loop-body
invariant-loop-body l =
    (f : ℕ)
    → slice_index_or l.lists.items f [] ++ own_bodies f (drop l.body-index l.bodies)
    ≡ slice_index_or l.fn.lists.items f [] ++ own_bodies f l.fn.bodies
