-- The items that are left, behind those so far, are all items.
use Rattle.std.proofs.Common.{◌≡◌, length}
use Rattle.std.specs.Vec.Iter.{into_iter_items, into_iter_len}
use Rattle.sc_statements.specs.Forms.{all_items}
use Rattle.sc_statements.proofs.Items.{behind_those}
use Rattle.sc_statements.proofs.forms.all_items.Given as goal

abbrev pub invariant-loop-s : goal.invariant-loop-s
invariant-loop-s l =
    (behind_those l.all (all_items (into_iter_items l.s-iterator)) ≡ all_items (into_iter_items l.initial.s-iterator))
    × (into_iter_len l.s-iterator ≡ length (into_iter_items l.s-iterator))
