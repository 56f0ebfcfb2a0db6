-- How much room a type takes (C11 6.2.8, 6.5.3.4, 6.7.2.1): its size and its alignment, in bytes.
use Rattle.std.specs.Prelude.{ℕ, ◌+◌, ◌-◌, ◌*◌, ◌/◌, ◌^◌, min, max, nat_eq, nat_lt, Bool, true, false, Option, Some, None, List, fold, slice_index_or, if◌then◌else◌}
use Rattle.sc_tree.specs.declared.ctype.OpaqueKind.{OpaqueKind}
use Rattle.sc_tree.specs.declared.ctype.OpaqueKind.TheVariants as opaque
use Rattle.sc_tree.specs.declared.ctype.Widths.{Widths}
use Rattle.sc_tree.specs.declared.ctype.Widths.TheVariants as widths
use Rattle.sc_tree.specs.declared.ctype.CType.{CType, CType-F}
use Rattle.sc_tree.specs.declared.ctype.CType.TheFolds.{fold-CType}
use Rattle.sc_typed.specs.declared.program.Extent.{Extent}
use Rattle.sc_typed.specs.declared.program.FieldDef.{FieldDef}
use Rattle.sc_typed.specs.declared.program.StructDef.{StructDef}
use Rattle.sc_typed.specs.Kinds.{kind_bytes, word_bytes}

-- No object is larger than 2^31 - 1 bytes: a type that would be has no extent.
abbrev pub fits : Extent → Option Extent
fits e = if nat_lt e.size (2 ^ 31) then Some e else None

-- the alignment of a type of that size that is no array, struct or union
abbrev pub aligned_as : Widths → ℕ → ℕ
aligned_as widths.Ilp32 n = min n 4
aligned_as widths.Lp64 n = n

abbrev pub plain_extent : Widths → ℕ → Extent
plain_extent w n = record { size = n; align = aligned_as w n }

abbrev pub long_double_bytes : Widths → ℕ
long_double_bytes widths.Ilp32 = 12
long_double_bytes widths.Lp64 = 16

-- a `__builtin_va_list` is a pointer, or the record of 24 bytes that the LP64 calling convention has
abbrev pub va_list_extent : Widths → Extent
va_list_extent widths.Ilp32 = record { size = 4; align = 4 }
va_list_extent widths.Lp64 = record { size = 24; align = 8 }

abbrev pub opaque_extent : Widths → OpaqueKind → Extent
opaque_extent w opaque.Float = plain_extent w 4
opaque_extent w opaque.Double = plain_extent w 8
opaque_extent w opaque.LongDouble = plain_extent w (long_double_bytes w)
opaque_extent w opaque.VaList = va_list_extent w

-- what stands for a number that no struct has
abbrev pub no_struct : StructDef
no_struct = record { union = false; fields = None; extent = None }

abbrev pub struct_at : List StructDef → ℕ → StructDef
struct_at structs n = slice_index_or structs n no_struct

-- an array without length has size 0
abbrev pub elements : Option ℕ → ℕ
elements None = 0
elements (Some n) = n

abbrev pub array_extent : Option Extent → Option ℕ → Option Extent
array_extent None n = None
array_extent (Some e) n = fits (record { size = e.size * elements n; align = e.align })

abbrev pub extent_step : Widths → List StructDef → CType-F (Option Extent) (Option Extent) → Option Extent
extent_step w structs CType-F.Void = Some (plain_extent w 1)
extent_step w structs CType-F.Bool = Some (plain_extent w 1)
extent_step w structs (CType-F.Int k) = Some (plain_extent w (kind_bytes w k))
extent_step w structs (CType-F.Ptr t) = Some (plain_extent w (word_bytes w))
extent_step w structs (CType-F.Array t n) = array_extent t n
extent_step w structs (CType-F.Struct n) = (struct_at structs n).extent
extent_step w structs (CType-F.Union n) = (struct_at structs n).extent
extent_step w structs (CType-F.Func s) = Some (plain_extent w 1)
extent_step w structs (CType-F.Opaque k) = Some (opaque_extent w k)

-- the extent of a type; none exactly of an incomplete type and of one that is too large
abbrev pub extent : Widths → List StructDef → CType → Option Extent
extent w structs = fold-CType (Option Extent) (Option Extent) (extent_step w structs) (λ s. None)

-- its size
abbrev pub size_if : Option Extent → Option ℕ
size_if None = None
size_if (Some e) = Some e.size

abbrev pub size : Widths → List StructDef → CType → Option ℕ
size w structs t = size_if (extent w structs t)

-- The members of a struct follow one another at aligned places, those of a union share the first; the size
-- is rounded up to the greatest alignment. A bit field takes the place of its whole type, none with width 0.

abbrev pub rounded_up : (n align : ℕ) → ℕ
rounded_up n align = (n + align - 1) / align * align

abbrev pub no_members : Extent
no_members = record { size = 0; align = 1 }

-- the members so far, and one of that extent behind them
abbrev pub with_member : (union : Bool) → Extent → Extent → Option Extent
with_member true all e = fits (record { size = max all.size e.size; align = max all.align e.align })
with_member false all e = fits (record { size = rounded_up all.size e.align + e.size; align = max all.align e.align })

abbrev pub is_no_bits : Option ℕ → Bool
is_no_bits None = false
is_no_bits (Some n) = nat_eq n 0

-- the members so far, and this one behind them
abbrev pub with_field : (union : Bool) → (bits : Option ℕ) → Option Extent → Extent → Option Extent
with_field union bits None all = None
with_field union bits (Some e) all = if is_no_bits bits then Some all else with_member union all e

abbrev pub closed : Option Extent → Option Extent
closed None = None
closed (Some e) = fits (record { size = rounded_up e.size e.align; align = e.align })

abbrev pub with_next : Widths → List StructDef → (union : Bool) → Option Extent → FieldDef → Option Extent
with_next w structs union None f = None
with_next w structs union (Some all) f = with_field union f.bits (extent w structs f.ctype) all

-- the extent of a struct or union with these members
abbrev pub struct_extent : Widths → List StructDef → (union : Bool) → List FieldDef → Option Extent
struct_extent w structs union fields = closed (fold (with_next w structs union) (Some no_members) fields)
