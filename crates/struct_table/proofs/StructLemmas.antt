-- Tables of structs whose members have their indices.
use Rattle.std.proofs.Common.{◌≡◌, ℕ, ◌<◌, ◌≤◌, zero, suc, Option, Some, None, List, [], ◌∷◌, ◌++◌, length, slice_index_or, slice_set, refl, sym, ◌∙◌, ap, arith}
use Rattle.sc_typed.specs.declared.program.StructDef.{StructDef}
use Rattle.sc_typed.specs.Extents.{struct_at, no_struct}
use Rattle.struct_table.specs.declared.members.Index.{Index}
use Rattle.struct_table.specs.Structs.{AllIndexed, Finds, members_of}

pub as_many : (is : List Index) (ss : List StructDef) → AllIndexed is ss → length is ≡ length ss
as_many [] [] all = refl
as_many [] (s ∷ ss) all = absurd all
as_many (i ∷ is) [] all = absurd all
as_many (i ∷ is) (s ∷ ss) all = ap suc (as_many is ss all.1)

pub all_set : (is : List Index) (ss : List StructDef) (n : ℕ) (i : Index) (s : StructDef) → AllIndexed is ss → Finds i s → AllIndexed (slice_set is n i) (slice_set ss n s)
all_set [] [] n i s all is-found = all
all_set [] (x ∷ ss) n i s all is-found = absurd all
all_set (x ∷ is) [] n i s all is-found = absurd all
all_set (x ∷ is) (y ∷ ss) zero i s all is-found = (is-found, all.1)
all_set (x ∷ is) (y ∷ ss) (suc n) i s all is-found = (all.0, all_set is ss n i s all.1 is-found)

pub all_behind : (is : List Index) (ss : List StructDef) (i : Index) (s : StructDef) → AllIndexed is ss → Finds i s → AllIndexed (is ++ i ∷ []) (ss ++ s ∷ [])
all_behind [] [] i s all is-found = (is-found, tt)
all_behind [] (x ∷ ss) i s all is-found = absurd all
all_behind (x ∷ is) [] i s all is-found = absurd all
all_behind (x ∷ is) (y ∷ ss) i s all is-found = (all.0, all_behind is ss i s all.1 is-found)

-- the index with a number is that of the struct with it
pub index_at : (is : List Index) (ss : List StructDef) (n : ℕ) (d : Index) → AllIndexed is ss → n < length is → Finds (slice_index_or is n d) (struct_at ss n)
index_at [] [] n d all within = absurd (omega (arith, within))
index_at [] (s ∷ ss) n d all within = absurd all
index_at (i ∷ is) [] n d all within = absurd all
index_at (i ∷ is) (s ∷ ss) zero d all within = all.0
index_at (i ∷ is) (s ∷ ss) (suc n) d all within = index_at is ss n d all.1 (omega (arith, within))

pub found_at : (is : List Index) (ss : List StructDef) (n : ℕ) (i : Index) → AllIndexed is ss → n < length is → i ≡ slice_index_or is n i → Finds i (struct_at ss n)
found_at is ss n i all within here = rw here (index_at is ss n i all within)

-- behind the last there is no struct
pub none_behind : (ss : List StructDef) (n : ℕ) → length ss ≤ n → struct_at ss n ≡ no_struct
none_behind [] zero past = refl
none_behind [] (suc n) past = refl
none_behind (s ∷ ss) zero past = absurd (omega (arith, past))
none_behind (s ∷ ss) (suc n) past = none_behind ss n (omega (arith, past))
