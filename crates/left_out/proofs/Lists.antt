-- Elements of lists, and whether one of them passes.
use Rattle.std.proofs.Common.{◌≡◌, ◌∙◌, ℕ, zero, suc, ◌+◌, ◌<◌, Bool, true, false, List, [], ◌∷◌, length, map, refl, sym, ap, ◌⊎◌, inl, inr, arith}
use Rattle.std.specs.Prelude.{Contains}
use Rattle.std.specs.List.{list_any, flat_map, range_with_len}
use Rattle.std.proofs.lemmas.Bool.{or_cases, or_from, false≢true, false_from_ne_true}
use Rattle.std.proofs.lemmas.List.Elements.{Contains-append_cases}
use Rattle.std.proofs.lemmas.List.Folds.{list_any-append, list_any_at}
use Rattle.std.proofs.lemmas.List.FromFn.{get_or-range_with_len, length-range_with_len}
use Rattle.world_laws.proofs.Candidates.{first_is, behind_first}

pub none_of : {X : Type 0} (p : X → Bool) (xs : List X) (y : X) → list_any p xs ≡ false → Contains xs y → p y ≡ false
none_of p xs y none has =
    false_from_ne_true (p y) (λ so. false≢true (sym none ∙ list_any_at p xs has.0 y has.1 (ap p has.2 ∙ so)))

pub some_of : {X : Type 0} (p : X → Bool) (xs : List X) (y : X) → Contains xs y → p y ≡ true → list_any p xs ≡ true
some_of p xs y has so = list_any_at p xs has.0 y has.1 (ap p has.2 ∙ so)

found_in : {X : Type 0} (p : X → Bool) (x : X) (xs : List X) → ((list_any p xs ≡ true) → (y : X) × Contains xs y × (p y ≡ true))
    → (p x ≡ true) ⊎ (list_any p xs ≡ true) → (y : X) × Contains (x ∷ xs) y × (p y ≡ true)
found_in p x xs rest (inl here) = (x, first_is x xs, here)
found_in p x xs rest (inr later) = let other = rest later in (other.0, behind_first x other.0 xs other.1, other.2)

pub found : {X : Type 0} (p : X → Bool) (xs : List X) → list_any p xs ≡ true → (y : X) × Contains xs y × (p y ≡ true)
found p [] h = absurd (false≢true h)
found p (x ∷ xs) h = found_in p x xs (λ later. found p xs later) (or_cases (p x) (list_any p xs) h)

alone_or_later : {X : Type 0} (x y : X) (xs : List X) → Contains (x ∷ []) y ⊎ Contains xs y → (x ≡ y) ⊎ Contains xs y
alone_or_later x y xs (inl (zero, less, is)) = inl is
alone_or_later x y xs (inl (suc k, less, is)) = absurd (omega (arith, less))
alone_or_later x y xs (inr later) = inr later

pub first_or_later : {X : Type 0} (x y : X) (xs : List X) → Contains (x ∷ xs) y → (x ≡ y) ⊎ Contains xs y
first_or_later x y xs has = alone_or_later x y xs (Contains-append_cases (x ∷ []) xs y has)

-- an element of a list of values is the value of an element
mapped_later : {X Y : Type 0} (f : X → Y) (x : X) (xs : List X) (y : Y) → ((Contains (map f xs) y) → (z : X) × Contains xs z × (f z ≡ y))
    → (f x ≡ y) ⊎ Contains (map f xs) y → (z : X) × Contains (x ∷ xs) z × (f z ≡ y)
mapped_later f x xs y rest (inl here) = (x, first_is x xs, here)
mapped_later f x xs y rest (inr later) = let other = rest later in (other.0, behind_first x other.0 xs other.1, other.2)

pub mapped : {X Y : Type 0} (f : X → Y) (xs : List X) (y : Y) → Contains (map f xs) y → (z : X) × Contains xs z × (f z ≡ y)
mapped f [] y (k, less, is) = absurd (omega (arith, less))
mapped f (x ∷ xs) y has = mapped_later f x xs y (λ later. mapped f xs y later) (first_or_later (f x) y (map f xs) has)

-- none passes of lists of which none passes
pub none_passes : {X Y : Type 0} (p : X → Bool) (f : Y → List X) (ys : List Y) → ((y : Y) → Contains ys y → list_any p (f y) ≡ false)
    → list_any p (flat_map f ys) ≡ false
none_passes p f [] none = refl
none_passes p f (y ∷ ys) none =
    list_any-append p (f y) (flat_map f ys)
    ∙ or_from (list_any p (f y)) (list_any p (flat_map f ys)) (none y (first_is y ys))
    (none_passes p f ys (λ z has. none z (behind_first y z ys has)))

pub in_range_below : (n k : ℕ) → Contains (range_with_len 0 n) k → k < n
in_range_below n k (i, less, is) =
    let long : length (range_with_len 0 n) ≡ n = length-range_with_len 0 n in
    let at : i < n = omega (arith, less, long) in
    let same : k ≡ 0 + i = sym is ∙ get_or-range_with_len 0 n i k at in
    omega (arith, at, same)
