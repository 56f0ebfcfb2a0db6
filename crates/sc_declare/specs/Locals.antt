-- Locals (C11 6.2.1, 6.2.2, 6): variables of a body without linkage.
use Rattle.std.specs.Prelude.{ℕ, nat_lt, Bool, Option, Some, None, List, [], ◌∷◌, ◌++◌, length, slice_set, slice_index_or, if◌then◌else◌}
use Rattle.sc_base.specs.declared.pos.Pos.{Pos}
use Rattle.sc_base.specs.declared.pos.NameId.{NameId}
use Rattle.sc_tree.specs.declared.ctype.CType.{CType, CType-F, out-CType}
use Rattle.sc_tree.specs.declared.ctype.CType.TheVariants as ty
use Rattle.sc_tree.specs.declared.ctype.Signature.{Signature}
use Rattle.sc_tree.specs.declared.ctype.Widths.{Widths}
use Rattle.sc_typed.specs.declared.program.Param.{Param}
use Rattle.sc_rules.specs.declared.walk.Entity.TheVariants as entity
use Rattle.sc_rules.specs.Walks.{Check, ◌>>=◌, done, declare}
use Rattle.sc_rules.specs.Conversions.{opaque_kind}
use Rattle.sc_names.specs.Names.{new_here, declare_if}
use Rattle.sc_names.specs.Structs.{object_at}
use Rattle.sc_declare.specs.Functions.{no_opaque}

-- a local more, by its number
abbrev pub add_local : NameId → CType → Check ℕ
add_local name t w = (length w.locals, record w { locals = w.locals ++ record { name = name; ctype = t } ∷ [] })

-- a name as a local, where it is new in its scope; it gives the number of the local
abbrev pub name_local : NameId → Pos → CType → Check ℕ
name_local name at t = do
  new ← new_here name at
  n ← add_local name t
  _ ← declare_if new name (entity.Local n t)
  done n

-- the type of a local is one that an object has, and no opaque one
abbrev pub local_type_at : Widths → Pos → CType → Check Bool
local_type_at ws at t = do
  _ ← no_opaque at (opaque_kind t)
  object_at ws at t

-- a variable of a body without linkage; it gives the number of the local
abbrev pub declare_local : Widths → NameId → Pos → CType → Check ℕ
declare_local ws name at t = do
  _ ← local_type_at ws at t
  name_local name at t

-- the locals with another type for that one, if it is there
abbrev pub no_local : Param
no_local = record { name = record { at = 0 }; ctype = ty.Void }

abbrev pub retyped : List Param → ℕ → CType → List Param
retyped ps n t =
    if nat_lt n (length ps) then slice_set ps n (record (slice_index_or ps n no_local) { ctype = t }) else ps

abbrev pub retype_local : ℕ → CType → Check (Unit {0})
retype_local n t w = (tt, record w { locals = retyped w.locals n t })

-- a local whose array got its length from its initialiser
abbrev pub lengthened : Widths → ℕ → NameId → Pos → CType → Check (Unit {0})
lengthened ws n name at t = do
  _ ← object_at ws at t
  _ ← retype_local n t
  declare name (entity.Local n t)

-- an array without length, with that one
abbrev pub length_layer : CType-F CType Signature → ℕ → Option CType
length_layer (CType-F.Array u None) m = Some (ty.Array u (Some m))
length_layer _ m = None

abbrev pub with_length : CType → ℕ → Option CType
with_length t m = length_layer (out-CType t) m

abbrev pub lengthened_if : Widths → ℕ → NameId → Pos → Option CType → Check (Unit {0})
lengthened_if ws n name at None = done tt
lengthened_if ws n name at (Some t) = lengthened ws n name at t

-- where its type has no length yet, and the initialiser gives one
abbrev pub lengthen : Widths → ℕ → NameId → Pos → Option ℕ → CType → Check (Unit {0})
lengthen ws n name at None t = done tt
lengthen ws n name at (Some m) t = lengthened_if ws n name at (with_length t m)
