-- Variables with linkage over all files (C11 6.2.2, 6.2.7): which names are local to a file, and which type all files
-- give a variable.
use Rattle.std.specs.Prelude.{ℕ, nat_eq, Bool, true, false, not, ◌&&◌, Option, Some, None, is_some, List, [], ◌∷◌, if◌then◌else◌}
use Rattle.std.specs.List.{list_any}
use Rattle.sc_tree.specs.declared.ctype.CType.{CType, CType-F, out-CType}
use Rattle.sc_tree.specs.declared.ctype.Signature.{Signature}
use Rattle.sc_tree.specs.declared.ctype.Widths.{Widths}
use Rattle.sc_typed.specs.declared.program.StructDef.{StructDef}
use Rattle.sc_typed.specs.Extents.{extent}
use Rattle.sc_rules.specs.declared.walk.Record.{Record}
use Rattle.sc_program.specs.Firsts.{or_else}

-- a name is local to a file where a declaration of it there has `static`
abbrev pub is_local_global : List Record → (file name : ℕ) → Bool
is_local_global rs f n = list_any (λ r. nat_eq r.file f && (nat_eq r.name.at n && r.is_static)) rs

-- whether a declaration is one of the global that the name means in that file
abbrev pub is_of : List Record → (file name : ℕ) → Record → Bool
is_of rs f n r =
    nat_eq r.name.at n
    && (if is_local_global rs f n then nat_eq r.file f else not (is_local_global rs r.file n))

abbrev pub open_layer : CType-F CType Signature → Bool
open_layer (CType-F.Array t None) = true
open_layer _ = false

-- whether it is an array without length
abbrev pub is_open : CType → Bool
is_open t = open_layer (out-CType t)

-- a type that has a size and is no array without length
abbrev pub is_settled : Widths → List StructDef → CType → Bool
is_settled w structs t = is_some (extent w structs t) && not (is_open t)

abbrev pub has_settled : Widths → List StructDef → Record → Bool
has_settled w structs r = is_settled w structs r.ctype

abbrev pub any_record : Record → Bool
any_record r = true

abbrev pub first_type : (Record → Bool) → List Record → Option CType
first_type test [] = None
first_type test (r ∷ rs) = if test r then Some r.ctype else first_type test rs

-- the type of a global: that of its first declaration whose type is settled, else that of its first declaration
abbrev pub type_over_all : Widths → List StructDef → List Record → (file name : ℕ) → Option CType
type_over_all w structs rs f n =
    or_else (first_type (λ r. is_of rs f n r && has_settled w structs r) rs) (first_type (is_of rs f n) rs)
