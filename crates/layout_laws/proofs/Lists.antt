-- Lists that grow, and entries that are set.
use Rattle.std.proofs.Common.{inl, inr, ◌≡◌, ◌⊎◌, ℕ, zero, suc, ◌+◌, ◌≤◌, ◌<◌, Bool, true, false, List, [], ◌∷◌, ◌++◌, length, refl, sym, ap, ◌∙◌, arith}
use Rattle.std.specs.Prelude.{slice_index_or, slice_set, nat_lt}

pub length_pushed : {X : Type 0} (xs : List X) (x : X) → length (xs ++ x ∷ []) ≡ suc (length xs)
length_pushed [] x = refl
length_pushed (y ∷ ys) x = ap suc (length_pushed ys x)

pub length_set : {X : Type 0} (xs : List X) (k : ℕ) (x : X) → length (slice_set xs k x) ≡ length xs
length_set [] k x = refl
length_set (y ∷ ys) zero x = refl
length_set (y ∷ ys) (suc k) x = ap suc (length_set ys k x)

pub pushed_before : {X : Type 0} (d : X) (xs : List X) (x : X) (i : ℕ) → i < length xs
    → slice_index_or (xs ++ x ∷ []) i d ≡ slice_index_or xs i d
pushed_before d [] x i less = absurd (omega (arith, less))
pushed_before d (y ∷ ys) x zero less = refl
pushed_before d (y ∷ ys) x (suc i) less = pushed_before d ys x i (omega (arith, less))

pub pushed_last : {X : Type 0} (d : X) (xs : List X) (x : X) → slice_index_or (xs ++ x ∷ []) (length xs) d ≡ x
pushed_last d [] x = refl
pushed_last d (y ∷ ys) x = pushed_last d ys x

-- an entry that is set to one of the same look
pub set_look : {X Y : Type 0} (look : X → Y) (d : X) (xs : List X) (k : ℕ) (x : X) → look x ≡ look (slice_index_or xs k d) → (i : ℕ)
    → look (slice_index_or (slice_set xs k x) i d) ≡ look (slice_index_or xs i d)
set_look look d [] k x e i = refl
set_look look d (y ∷ ys) zero x e zero = e
set_look look d (y ∷ ys) zero x e (suc i) = refl
set_look look d (y ∷ ys) (suc k) x e zero = refl
set_look look d (y ∷ ys) (suc k) x e (suc i) = set_look look d ys k x e i

pub below_or : (m n : ℕ) → (m < n) ⊎ (n ≤ m)
below_or m zero = inr (omega arith)
below_or zero (suc n) = inl (omega arith)
below_or (suc m) (suc n) = further (below_or m n)
  where
    further : (m < n) ⊎ (n ≤ m) → (suc m < suc n) ⊎ (suc n ≤ suc m)
    further (inl h) = inl (omega (arith, h))
    further (inr h) = inr (omega (arith, h))
