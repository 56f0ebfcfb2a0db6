-- The values that are left have the faults that all have.
use Rattle.std.proofs.Common.{◌≡◌, length}
use Rattle.std.specs.Vec.Iter.{into_iter_items, into_iter_len}
use Rattle.sc_fill.specs.Initialisers.{each_value}
use Rattle.sc_fill.proofs.initialisers.each_value.Given as goal

abbrev pub invariant-loop-e : goal.invariant-loop-e
invariant-loop-e l =
    (each_value (into_iter_items l.e-iterator) l.walk ≡ each_value (into_iter_items l.initial.e-iterator) l.initial.walk)
    × (into_iter_len l.e-iterator ≡ length (into_iter_items l.e-iterator))
