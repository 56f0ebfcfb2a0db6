-- The arguments that are left, behind those so far, give what all give.
use Rattle.std.proofs.Common.{◌≡◌, length}
use Rattle.std.specs.Vec.Iter.{into_iter_items, into_iter_len}
use Rattle.sc_calls.specs.Calls.{arguments}
use Rattle.sc_calls.proofs.Arguments.{behind_those}
use Rattle.sc_calls.proofs.calls.arguments.Given as goal

abbrev pub invariant-loop-a : goal.invariant-loop-a
invariant-loop-a l =
    (behind_those l.all (arguments l.w l.at l.types (into_iter_items l.a-iterator) l.walk)
    ≡ arguments l.w l.at l.initial.types (into_iter_items l.initial.a-iterator) l.initial.walk)
    × (into_iter_len l.a-iterator ≡ length (into_iter_items l.a-iterator))
