-- Small steps that several loops take: a count that goes up by one, and a list that loses its first element.
use Rattle.std.proofs.Common.{◌≡◌, ℕ, suc, ◌+◌, ◌<◌, List, [], ◌∷◌, length, drop, get_or, refl, ap, arith, Option, Some, None}
use Rattle.std.specs.Prelude.{option_map}
use Rattle.std.proofs.lemmas.List.{drop_more}

-- one more counted in front is one more counted behind
pub count_more : (i : ℕ) (o : Option ℕ) → option_map (λ n. (i + 1) + n) o ≡ option_map (λ n. i + n) (option_map suc o)
count_more i (Some n) = ap (λ (m : ℕ). Some m) (omega arith)
count_more i None = refl

-- a list of some length has a first element
pub first_of : (xs : List ℕ) → 0 < length xs → (x : ℕ) × (ys : List ℕ) × (xs ≡ x ∷ ys)
first_of [] h = absurd (omega arith)
first_of (x ∷ xs) h = (x, xs, refl)

-- a list that is longer than a place has an element there
pub element_at : {A : Type 0} (xs : List A) (at : ℕ) → at < length xs → (x : A) × (drop at xs ≡ x ∷ drop (at + 1) xs)
element_at [] at lt = absurd (omega arith)
element_at (y ∷ ys) at lt = (get_or (y ∷ ys) at y, drop_more (y ∷ ys) at y lt)
