-- The items that are left have the faults that all have.
use Rattle.std.proofs.Common.{◌≡◌, drop}
use Rattle.sc_statements.specs.Seen.{differ_from}
use Rattle.sc_statements.proofs.choices.differ.Given as goal

abbrev pub invariant-loop-item : goal.invariant-loop-item
invariant-loop-item l = differ_from (drop l.item-index l.items) l.seen l.walk ≡ differ_from l.items l.initial.seen l.initial.walk
