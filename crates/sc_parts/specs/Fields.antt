-- Members and enumerators (C11 6.7.2.1, 6.7.2.2).
use Rattle.std.specs.Prelude.{ℕ, ◌+◌, ◌%◌, ◌^◌, Bool, true, false, not, Option, Some, None, List, [], ◌∷◌, ◌++◌, ℤ}
use Rattle.sc_base.specs.declared.pos.Pos.{Pos}
use Rattle.sc_base.specs.declared.pos.NameId.{NameId}
use Rattle.sc_base.specs.declared.skip.IllTyped.TheVariants as i
use Rattle.sc_tree.specs.declared.ctype.CType.{CType}
use Rattle.sc_tree.specs.declared.ctype.CType.TheVariants as ty
use Rattle.sc_tree.specs.declared.ctype.Widths.{Widths}
use Rattle.sc_typed.specs.declared.expr.TExpr.{TExpr}
use Rattle.sc_typed.specs.declared.program.FieldDef.{FieldDef}
use Rattle.sc_typed.specs.Arith.{converted as number_converted}
use Rattle.sc_typed.specs.Constants.{constant, constant_bits}
use Rattle.sc_rules.specs.declared.walk.Entity.TheVariants as entity
use Rattle.sc_rules.specs.declared.walk.TagKind.{TagKind}
use Rattle.sc_rules.specs.declared.walk.TagKind.TheVariants as tag
use Rattle.sc_rules.specs.Faults.{ill_typed_at}
use Rattle.sc_rules.specs.Walks.{Check, ◌>>=◌, done, ill_typed, holds_or}
use Rattle.sc_rules.specs.Conversions.{type_of, place_of}
use Rattle.sc_operators.specs.Binary.{int}
use Rattle.struct_table.specs.Members.{is_among}
use Rattle.sc_names.specs.Names.{new_here, declare_if}
use Rattle.sc_names.specs.Structs.{object_at}
use Rattle.sc_parts.specs.Declarators.{in_range, ranged}

abbrev pub width_number : Option ℤ → TExpr → Check (Option (Option ℕ))
width_number None e = ill_typed i.Constant (place_of e).token
width_number (Some z) e = ranged (in_range z) (place_of e).token

-- the width of a bit field, where one is written
abbrev pub width_of : Widths → TExpr → Check (Option (Option ℕ))
width_of w e = width_number (constant w e) e

abbrev pub with_field : Option NameId → Option CType → Option (Option ℕ) → Option (List FieldDef) → Option (List FieldDef)
with_field name (Some t) (Some bits) (Some fs) = Some (fs ++ record { name = name; ctype = t; bits = bits } ∷ [])
with_field name _ _ _ = None

abbrev pub names_field : NameId → Option (List FieldDef) → Bool
names_field name None = false
names_field name (Some fs) = is_among name fs

abbrev pub only_if : {A : Type 0} → Bool → Option A → Option A
only_if true a = a
only_if false a = None

-- a member of that type at that place is an object
abbrev pub member_object : Widths → Pos → Option CType → Check (Option CType)
member_object w at None = done None
member_object w at (Some t) = object_at w at t >>= λ b. done (only_if b (Some t))

-- no two members have one name
abbrev pub new_member : NameId → Pos → Option (List FieldDef) → Check Bool
new_member name at fs = holds_or (not (names_field name fs)) (ill_typed_at i.Again at)

abbrev pub aggregate_kind : (union : Bool) → TagKind
aggregate_kind true = tag.Union
aggregate_kind false = tag.Struct

abbrev pub aggregate_type : (union : Bool) → ℕ → CType
aggregate_type true n = ty.Union n
aggregate_type false n = ty.Struct n

-- Enumerators: each has the number of its value as an `int`, or one more than the one before.
abbrev pub enumerator_bits : Widths → (next : ℕ) → CType → Option ℕ → Pos → Check ℕ
enumerator_bits w next t None at = holds_or false (ill_typed_at i.Constant at) >>= λ _. done next
enumerator_bits w next t (Some n) at = done (number_converted w t int n)

abbrev pub enumerator_value : Widths → (next : ℕ) → Pos → Option TExpr → Check ℕ
enumerator_value w next at None = done next
enumerator_value w next at (Some e) = enumerator_bits w next (type_of e) (constant_bits w e) at

-- an enumerator of that number is declared, and gives the number of the next one
abbrev pub enumerator : NameId → Pos → ℕ → Check ℕ
enumerator name at n = do
  new ← new_here name at
  _ ← declare_if new name (entity.Constant n)
  done ((n + 1) % 2 ^ 32)
