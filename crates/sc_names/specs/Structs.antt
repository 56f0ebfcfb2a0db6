-- Structs and unions (C11 6.7.2.1). A struct is met where its tag is new or where it has none. It is complete
-- behind its body, if nothing in the body is refused. And which types an object has (C11 6.7, 7).
use Rattle.std.specs.Prelude.{ℕ, ◌+◌, Bool, not, ◌&&◌, ◌||◌, Option, Some, None, is_some, List, [], ◌∷◌, ◌++◌}
use Rattle.sc_base.specs.declared.pos.Pos.{Pos}
use Rattle.sc_base.specs.declared.skip.IllTyped.TheVariants as i
use Rattle.sc_tree.specs.declared.ctype.CType.{CType}
use Rattle.sc_tree.specs.declared.ctype.Widths.{Widths}
use Rattle.sc_typed.specs.declared.program.FieldDef.{FieldDef}
use Rattle.sc_typed.specs.declared.program.StructDef.{StructDef}
use Rattle.sc_typed.specs.Types.{is_function, is_void}
use Rattle.sc_typed.specs.Extents.{size, struct_extent, struct_at, no_struct}
use Rattle.struct_table.specs.Structs.{put_at, replaced}
use Rattle.sc_rules.specs.Faults.{ill_typed_at}
use Rattle.sc_rules.specs.Walks.{Check, ◌>>=◌, done, holds_or}

abbrev pub new_struct : (union : Bool) → Check ℕ
new_struct union w =
    (w.met, record w { structs = put_at w.structs w.met (record no_struct { union = union }); met = w.met + 1 })

-- a struct with these members
abbrev pub completed_struct : Widths → List StructDef → (union : Bool) → List FieldDef → StructDef
completed_struct ws structs union fields =
    record { union = union; fields = Some fields; extent = struct_extent ws structs union fields }

abbrev pub complete : Widths → ℕ → List FieldDef → Check (Unit {0})
complete ws n fields w = (
  tt,
  record w {
    structs = replaced w.structs n (completed_struct ws w.structs (struct_at w.structs n).union fields);
    completed = w.completed ++ n ∷ [];
  },
)

abbrev pub complete_if : Widths → ℕ → Option (List FieldDef) → Check (Unit {0})
complete_if ws n None = done tt
complete_if ws n (Some fields) = complete ws n fields

-- the size of a type now
abbrev pub size_now : Widths → CType → Check (Option ℕ)
size_now ws t w = (size ws w.structs t, w)

-- an object needs a type that has a size and is no function and not `void`
abbrev pub is_object : CType → Option ℕ → Bool
is_object t n = is_some n && not (is_void t || is_function t)

abbrev pub object_at : Widths → Pos → CType → Check Bool
object_at ws at t = do
  n ← size_now ws t
  holds_or (is_object t n) (ill_typed_at i.Incomplete at)
