-- The structs and unions of a walk (C11 6.7.2.1).
use Rattle.std.specs.Prelude.{ℕ, nat_lt, nat_eq, Option, Some, None, List, [], ◌∷◌, ◌++◌, length, slice_set, if◌then◌else◌}
use Rattle.std.specs.HashMap.{get}
use Rattle.sc_typed.specs.declared.program.FieldDef.{FieldDef}
use Rattle.sc_typed.specs.declared.program.StructDef.{StructDef}
use Rattle.struct_table.specs.declared.members.Index.{Index}
use Rattle.struct_table.specs.Members.{IsIndexed}

-- the table with another struct in place of the one with that number, if there is one
abbrev pub replaced : List StructDef → ℕ → StructDef → List StructDef
replaced structs n s = if nat_lt n (length structs) then slice_set structs n s else structs

-- the table with a struct at that number, or behind the last
abbrev pub put_at : List StructDef → ℕ → StructDef → List StructDef
put_at structs n s = if nat_lt n (length structs) then slice_set structs n s else structs ++ s ∷ []

abbrev pub fields_of : Option (List FieldDef) → List FieldDef
fields_of None = []
fields_of (Some fs) = fs

-- the members of a struct or union; none while it is incomplete
abbrev pub members_of : StructDef → List FieldDef
members_of s = fields_of s.fields

abbrev pub Finds : Index → StructDef → Type 0
Finds i s = IsIndexed (get nat_eq i.numbers) i.unnamed.items (members_of s)

-- each struct has the index of its members
abbrev pub AllIndexed : List Index → List StructDef → Type 0
AllIndexed [] [] = Unit {0}
AllIndexed (i ∷ is) (s ∷ ss) = Finds i s × AllIndexed is ss
AllIndexed _ _ = ⊥
