-- Facts about lists of any elements: the element at a place of `xs ++ y ∷ []`, and a value looked for by an equality.
use Rattle.std.proofs.Common.{◌≡◌, ℕ, zero, suc, List, [], ◌∷◌, ◌++◌, length, slice_get, Some, refl, ap, ◌⊎◌, inl, inr}

pub slice_get_front : {A : Type 0} (xs ys : List A) (k : ℕ) (x : A) → slice_get xs k ≡ Some x → slice_get (xs ++ ys) k ≡ Some x
slice_get_front [] ys k x h = cc
slice_get_front (z ∷ xs) ys zero x h = h
slice_get_front (z ∷ xs) ys (suc k) x h = slice_get_front xs ys k x h

pub slice_get_end : {A : Type 0} (xs : List A) (y : A) → slice_get (xs ++ y ∷ []) (length xs) ≡ Some y
slice_get_end [] y = refl
slice_get_end (z ∷ xs) y = slice_get_end xs y

-- the element at a place is one of the old list or the new one at the end
pub slice_get_push : {A : Type 0} (xs : List A) (y : A) (k : ℕ) (x : A) → slice_get (xs ++ y ∷ []) k ≡ Some x → (slice_get xs k ≡ Some x) ⊎ ((k ≡ length xs) × (y ≡ x))
slice_get_push [] y zero x h = inr (refl, cc)
slice_get_push [] y (suc k) x h = inl h
slice_get_push (z ∷ xs) y zero x h = inl h
slice_get_push (z ∷ xs) y (suc k) x h =
    elim (slice_get_push xs y k x h) [ inl old ↦ inl old | inr new ↦ inr (ap suc new.0, new.1) ]

-- a list is what stands before a place, the element there, and what stands behind it
pub split_at_place : {A : Type 0} (xs : List A) (k : ℕ) (x : A) → slice_get xs k ≡ Some x → (front back : List A) × (xs ≡ front ++ x ∷ back) × (length front ≡ k)
split_at_place [] k x h = cc
split_at_place (z ∷ xs) zero x h = ([], xs, cc, refl)
split_at_place (z ∷ xs) (suc k) x h =
    let s = split_at_place xs k x h in (z ∷ s.0, s.1, ap (λ l. z ∷ l) s.2, ap suc s.3)
