-- The member that a name means, told by the number that the index has for the name, and the unnamed members by theirs.
use Rattle.std.proofs.Common.{◌≡◌, ℕ, ◌+◌, ◌-◌, ◌<◌, ◌≤◌, zero, suc, Bool, true, false, Option, Some, None, List, [], ◌∷◌, ◌++◌, length, slice_index_or, drop, if◌then◌else◌, refl, sym, ◌∙◌, ap, arith}
use Rattle.sc_base.specs.declared.pos.NameId.{NameId}
use Rattle.sc_tree.specs.declared.ctype.CType.{CType}
use Rattle.sc_typed.specs.declared.program.FieldDef.{FieldDef}
use Rattle.struct_table.specs.Members.{is_called, is_unnamed, number_from, unnamed_from}
use Rattle.sc_unary.specs.declared.members.Meant.{Meant}
use Rattle.sc_unary.specs.declared.members.Meant.TheVariants as means
use Rattle.sc_unary.specs.Members.{among, meant_by, or_next, through_unnamed, among_unnamed, no_field}

none_by : (b : Bool) (union : Bool) (k : ℕ) (f : FieldDef) (rest : Option ℕ) (found : Meant) → (if b then Some k else rest) ≡ None
    → (rest ≡ None → found ≡ means.Missing) → (if b then meant_by union k f else found) ≡ means.Missing
none_by true union k f rest found is so = (cc)
none_by false union k f rest found is so = so is

pub among_none : (union : Bool) (k : ℕ) (name : NameId) (fs : List FieldDef) → number_from k name fs ≡ None → among union name k fs ≡ means.Missing
among_none union k name [] is = refl
among_none union k name (f ∷ fs) is =
    none_by (is_called name f.name) union k f (number_from (k + 1) name fs) (among union name (k + 1) fs) is (among_none union (k + 1) name fs)

-- the member with that number, of which the first of these has the number k
pub record IsMeant (union : Bool) (k j : ℕ) (fs : List FieldDef) (found : Meant) : Type 0 where
  pub from : k ≤ j
  pub within : j < k + length fs
  pub meant : (d : FieldDef) → found ≡ meant_by union j (slice_index_or fs (j - k) d)

first_meant : (union : Bool) (k j : ℕ) (f : FieldDef) (fs : List FieldDef) → Some k ≡ Some j → IsMeant union k j (f ∷ fs) (meant_by union k f)
first_meant union k j f fs is =
    let same : k ≡ j = (cc) in
    let none : j - k ≡ 0 = omega (arith, same) in
    record {
      from = omega (arith, same);
      within = omega (arith, same);
      meant = λ d. rw none (ap (λ n. meant_by union n f) same);
    }

next_meant : (union : Bool) (k j : ℕ) (f : FieldDef) (fs : List FieldDef) (found : Meant) → IsMeant union (k + 1) j fs found → IsMeant union k j (f ∷ fs) found
next_meant union k j f fs found is =
    let further : j - k ≡ suc (j - (k + 1)) = omega (arith, is.from) in
    record {
      from = omega (arith, is.from);
      within = omega (arith, is.within);
      meant = λ d. rw further (is.meant d);
    }

meant_of : (b : Bool) (union : Bool) (k j : ℕ) (f : FieldDef) (fs : List FieldDef) (rest : Option ℕ) (found : Meant) → (if b then Some k else rest) ≡ Some j
    → (rest ≡ Some j → IsMeant union (k + 1) j fs found) → IsMeant union k j (f ∷ fs) (if b then meant_by union k f else found)
meant_of true union k j f fs rest found is so = first_meant union k j f fs is
meant_of false union k j f fs rest found is so = next_meant union k j f fs found (so is)

among_from : (union : Bool) (k j : ℕ) (name : NameId) (fs : List FieldDef) → number_from k name fs ≡ Some j → IsMeant union k j fs (among union name k fs)
among_from union k j name [] is = (cc)
among_from union k j name (f ∷ fs) is =
    meant_of (is_called name f.name) union k j f fs (number_from (k + 1) name fs) (among union name (k + 1) fs) is (among_from union (k + 1) j name fs)

pub among_some : (union : Bool) (j : ℕ) (name : NameId) (fs : List FieldDef) (d : FieldDef) → number_from 0 name fs ≡ Some j
    → (j < length fs) × (among union name 0 fs ≡ meant_by union j (slice_index_or fs j d))
among_some union j name fs d is =
    let found = among_from union 0 j name fs is in
    let all : j - 0 ≡ j = omega arith in
    (omega (arith, found.within), rw all at (found.meant d))

-- The unnamed members by their numbers.
abbrev pub among_numbers : (inside : CType → Meant) → (union : Bool) → List FieldDef → List ℕ → Meant
among_numbers inside union fs [] = means.Missing
among_numbers inside union fs (k ∷ ks) = or_next (through_unnamed union (inside (slice_index_or fs k no_field).ctype)) (among_numbers inside union fs ks)

here : (before : List FieldDef) (f : FieldDef) (fs : List FieldDef) (d : FieldDef) → slice_index_or (before ++ f ∷ fs) (length before) d ≡ f
here [] f fs d = refl
here (g ∷ before) f fs d = here before f fs d

numbers_by : (b : Bool) (inside : CType → Meant) (union : Bool) (all : List FieldDef) (f : FieldDef) (k : ℕ) (ks : List ℕ) (rest : Meant) → slice_index_or all k no_field ≡ f
    → among_numbers inside union all ks ≡ rest
    → among_numbers inside union all (if b then k ∷ ks else ks) ≡ or_next (if b then through_unnamed union (inside f.ctype) else means.Missing) rest
numbers_by true inside union all f k ks rest at is = rw (at, is) refl
numbers_by false inside union all f k ks rest at is = is

numbered : (inside : CType → Meant) (union : Bool) (before fs all : List FieldDef) (k : ℕ) → all ≡ before ++ fs → k ≡ length before
    → among_numbers inside union all (unnamed_from k fs) ≡ among_unnamed inside union fs
numbered inside union before [] all k is at = refl
numbered inside union before (f ∷ fs) all k is at =
    let next : k + 1 ≡ length (before ++ f ∷ []) = rw (one_more before f) (omega (arith, at)) in
    let joined : all ≡ (before ++ f ∷ []) ++ fs = is ∙ onto before f fs in
    let stands : slice_index_or all k no_field ≡ f = rw (is, at) (here before f fs no_field) in
    numbers_by (is_unnamed f) inside union all f k (unnamed_from (k + 1) fs) (among_unnamed inside union fs) stands
    (numbered inside union (before ++ f ∷ []) fs all (k + 1) joined next)
  where
    one_more : (before : List FieldDef) (f : FieldDef) → length (before ++ f ∷ []) ≡ suc (length before)
    one_more [] f = refl
    one_more (g ∷ before) f = ap suc (one_more before f)

    onto : (before : List FieldDef) (f : FieldDef) (fs : List FieldDef) → before ++ f ∷ fs ≡ (before ++ f ∷ []) ++ fs
    onto [] f fs = refl
    onto (g ∷ before) f fs = ap (λ (xs : List FieldDef). g ∷ xs) (onto before f fs)

pub unnamed_by_numbers : (inside : CType → Meant) (union : Bool) (fs : List FieldDef) → among_numbers inside union fs (unnamed_from 0 fs) ≡ among_unnamed inside union fs
unnamed_by_numbers inside union fs = numbered inside union [] fs fs 0 refl refl
