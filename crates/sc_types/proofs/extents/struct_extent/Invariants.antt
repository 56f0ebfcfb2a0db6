use Rattle.std.proofs.Common.{◌≡◌, fold, take, Some}
use Rattle.sc_typed.specs.Extents.{with_next, no_members}
use Rattle.sc_types.proofs.extents.struct_extent.Given as goal

abbrev pub invariant-loop-field : goal.invariant-loop-field
invariant-loop-field l = l.all ≡ fold (with_next l.w l.structs l.union) (Some no_members) (take l.field-index l.fields)
