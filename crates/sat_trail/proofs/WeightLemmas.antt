-- The weight of a trail.

use Rattle.std.proofs.Common.{◌≡◌, ℕ, zero, suc, ◌+◌, ◌<◌, ◌≤◌, true, false, if◌then◌else◌, List, [], ◌∷◌, ◌++◌, length, take, slice_get, Some, refl, ap, ◌∙◌, arith}
use Rattle.sat_trail.specs.declared.trail.Step.{Step}
use Rattle.sat_trail.specs.Weight.{numbers, weight}

numbers_some : (n : ℕ) → 0 < numbers n
numbers_some zero = omega arith
numbers_some (suc n) = let h = numbers_some n in omega (arith, h)

pub weight-nil : (n : ℕ) → weight n [] ≡ 0
weight-nil zero = refl
weight-nil (suc n) = refl

pub weight_below : (n : ℕ) (steps : List Step) → weight n steps < numbers n
weight_below zero steps = omega arith
weight_below (suc n) [] = let h = numbers_some n in omega (arith, h)
weight_below (suc n) (s ∷ rest) =
    let h = weight_below n rest in
    elim s.implied as (λ b. (if b then numbers n + numbers n else numbers n) + weight n rest < numbers n + (numbers n + numbers n)) [
      | true ↦ omega (arith, h)
      | false ↦ omega (arith, h)
    ]

pub weight-append : (n : ℕ) (xs ys : List Step) → weight n xs ≤ weight n (xs ++ ys)
weight-append zero xs ys = omega arith
weight-append (suc n) [] ys = omega arith
weight-append (suc n) (x ∷ xs) ys = let h = weight-append n xs ys in omega (arith, h)

pub weight-push : (n : ℕ) (xs : List Step) (s : Step) → length xs < n → weight n xs < weight n (xs ++ s ∷ [])
weight-push zero xs s h = absurd (omega (arith, h))
weight-push (suc n) [] s h =
    let p = numbers_some n in
    elim s.implied as (λ b. 0 < (if b then numbers n + numbers n else numbers n) + weight n []) [
      | true ↦ omega (arith, p)
      | false ↦ omega (arith, p)
    ]
weight-push (suc n) (x ∷ xs) s h = let r = weight-push n xs s (omega (arith, h)) in omega (arith, r)

-- a decision gives way to an implied step
pub weight-jump : (n : ℕ) (xs : List Step) (k : ℕ) (d s : Step) → slice_get xs k ≡ Some d → d.implied ≡ false → s.implied ≡ true → k < n
    → weight n xs < weight n (take k xs ++ s ∷ [])
weight-jump zero xs k d s found undone given below = absurd (omega (arith, below))
weight-jump (suc n) [] k d s found undone given below = absurd (cc found)
weight-jump (suc n) (x ∷ xs) zero d s found undone given below =
    let e : x ≡ d = cc found in
    let decided : x.implied ≡ false = ap (λ t. t.implied) e ∙ undone in
    let small = weight_below n xs in
    let none = weight-nil n in
    rw (decided, given) (omega (arith, small, none))
weight-jump (suc n) (x ∷ xs) (suc k) d s found undone given below =
    let r = weight-jump n xs k d s found undone given (omega (arith, below)) in omega (arith, r)
