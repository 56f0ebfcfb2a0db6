-- Lists that are compared item by item.
use Rattle.std.proofs.Common.{◌≡◌, ◌↔◌, ℕ, zero, suc, ◌+◌, ◌<◌, List, [], ◌∷◌, length, map, take, get_or, refl, sym, ap, subst, ◌∙◌, arith}
use Rattle.std.proofs.lemmas.List.{take_more_same, length-map, get_or-map}
use Rattle.std.specs.Prelude.{Option}
use Rattle.sum_rows.specs.declared.report.Verdict.{Verdict}
use Rattle.session_core.specs.Stale.{Memory, IsStale}

module _ {A : Type 0} where
  -- in range the default does not matter
  pub defaults : (xs : List A) (i : ℕ) (d e : A) → i < length xs → get_or xs i d ≡ get_or xs i e
  defaults [] i d e low = absurd (omega (arith, low))
  defaults (x ∷ xs) zero d e low = refl
  defaults (x ∷ xs) (suc i) d e low = defaults xs i d e (omega (arith, low))

  -- one more equal item
  pub one_more : (xs ys : List A) (i : ℕ) (x y : A) → i < length xs → i < length ys → x ≡ get_or xs i x → y ≡ get_or ys i y
      → take i xs ≡ take i ys → x ≡ y → take (i + 1) xs ≡ take (i + 1) ys
  one_more xs ys i x y low low' is is' front e =
      take_more_same xs ys i x low low' front (sym is ∙ e ∙ is' ∙ ap (get_or ys i) (sym e))

  -- the items of equal lists are equal
  pub at_same : (xs ys : List A) (i : ℕ) (x y : A) → i < length ys → x ≡ get_or xs i x → y ≡ get_or ys i y → xs ≡ ys → x ≡ y
  at_same xs ys i x y low is is' e = is ∙ ap (λ l. get_or l i x) e ∙ defaults ys i x y low ∙ sym is'

-- the same of what items are seen as
module _ {A B : Type 0} (f : A → B) where
  seen : (xs : List A) (i : ℕ) (x : A) → i < length xs → x ≡ get_or xs i x → f x ≡ get_or (map f xs) i (f x)
  seen xs i x low is = ap f is ∙ sym (get_or-map f xs i x (f x) low)

  low_seen : (xs : List A) (i : ℕ) → i < length xs → i < length (map f xs)
  low_seen xs i low =
      let many : length (map f xs) ≡ length xs = length-map xs f in
      omega (arith, many, low)

  pub one_more_seen : (xs ys : List A) (i : ℕ) (x y : A) (u v : B) → i < length xs → i < length ys → x ≡ get_or xs i x → y ≡ get_or ys i y
      → u ≡ f x → v ≡ f y → take i (map f xs) ≡ take i (map f ys) → u ≡ v → take (i + 1) (map f xs) ≡ take (i + 1) (map f ys)
  one_more_seen xs ys i x y u v low low' is is' here here' front e =
      one_more (map f xs) (map f ys) i (f x) (f y) (low_seen xs i low) (low_seen ys i low') (seen xs i x low is) (seen ys i y low' is')
      front (sym here ∙ (e ∙ here'))

  pub at_same_seen : (xs ys : List A) (i : ℕ) (x y : A) (u v : B) → i < length xs → i < length ys → x ≡ get_or xs i x → y ≡ get_or ys i y
      → u ≡ f x → v ≡ f y → map f xs ≡ map f ys → u ≡ v
  at_same_seen xs ys i x y u v low low' is is' here here' e =
      here ∙ (at_same (map f xs) (map f ys) i (f x) (f y) (low_seen ys i low') (seen xs i x low is) (seen ys i y low' is') e ∙ sym here')

-- what is seen of an item is the item of what is seen
pub at_look : {A B : Type 0} (look : A → B) (xs : List A) (i : ℕ) (x : A) (d : B) → i < length xs → x ≡ get_or xs i x
    → look x ≡ get_or (map look xs) i d
at_look look xs i x d low is = ap look is ∙ sym (get_or-map look xs i x d low)

-- staleness of what is equal
pub same_stale : {P : Type 0} {now now' : List ℕ} {kept kept' : Option Memory} {rows rows' : List Verdict} → now ≡ now' → kept ≡ kept' → rows ≡ rows'
    → (P ↔ IsStale now kept rows) → (P ↔ IsStale now' kept' rows')
same_stale {P} {now} {now'} {kept} {kept'} {rows} {rows'} e e' e'' h =
    let A : List ℕ → Type 0 = λ x. P ↔ IsStale x kept rows in
    let B : Option Memory → Type 0 = λ x. P ↔ IsStale now' x rows in
    let C : List Verdict → Type 0 = λ x. P ↔ IsStale now' kept' x in
    subst C e'' (subst B e' (subst A e h))
