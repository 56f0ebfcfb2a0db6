-- The values so far, with those of the rest behind them, are those of all.
use Rattle.std.proofs.Common.{◌≡◌, ◌++◌, length}
use Rattle.std.specs.Vec.Iter.{into_iter_items, into_iter_len}
use Rattle.sc_fill.specs.Initialisers.{those_there}
use Rattle.sc_fill.proofs.initialisers.those_there.Given as goal

abbrev pub invariant-loop-value : goal.invariant-loop-value
invariant-loop-value l =
    (l.present ++ those_there (into_iter_items l.value-iterator) ≡ those_there (into_iter_items l.initial.value-iterator))
    × (into_iter_len l.value-iterator ≡ length (into_iter_items l.value-iterator))
