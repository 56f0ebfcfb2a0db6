-- The items that are left, behind those so far, give what all give.
use Rattle.std.proofs.Common.{◌≡◌, None, drop}
use Rattle.sc_typing.specs.Tables.{here_of}
use Rattle.sc_lengths.specs.Lengths.{count_items}
use Rattle.sc_lengths.proofs.lengths.count_items.Given as goal

abbrev pub invariant-loop-item : goal.invariant-loop-item
invariant-loop-item l =
    count_items (here_of l.here) l.t (drop l.item-index l.items) l.way l.most l.walk
    ≡ count_items (here_of l.fn.here) l.fn.t l.fn.items None 0 l.fn.walk
