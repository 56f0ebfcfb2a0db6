-- Among the members that are left the name has the number that it has among all.
use Rattle.std.proofs.Common.{◌≡◌, drop}
use Rattle.sc_lengths.specs.Designators.{index_in}
use Rattle.sc_lengths.proofs.designators.index_in.Given as goal

abbrev pub invariant-loop-field : goal.invariant-loop-field
invariant-loop-field l = index_in l.k l.name (drop l.field-index l.fields) ≡ index_in 0 l.name l.fields
