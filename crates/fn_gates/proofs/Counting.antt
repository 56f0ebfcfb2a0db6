-- Numbers of locations.
use Rattle.std.specs.Prelude.{◌≡◌, refl, ℕ, ◌<◌, ◌^◌, Option, Some, None, IfSome, List, [], ◌∷◌, length, map}
use Rattle.std.proofs.Common.{arith}

pub length_map : {A B : Type 0} (f : A → B) (xs : List A) → length (map f xs) ≡ length xs
length_map f [] = refl
length_map f (x ∷ xs) = omega (arith, length_map f xs)

pub few_items : {A B : Type 0} (f : A → B) (xs : List A) (k : ℕ) → k ≡ length (map f xs) → k < 4294967296 → length xs < 4294967296
few_items f xs k is few = omega (arith, is, few, length_map f xs)

pub in_any_case : {A : Type 0} {P : Type 0} (x : Option A) → P → IfSome x (λ a. P)
in_any_case None p = tt
in_any_case (Some a) p = p
