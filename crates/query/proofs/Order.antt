-- Lists of values in lexicographic order, with one value more at their ends.

use Rattle.std.proofs.Common.{◌≡◌, Bool, true, false, List, [], ◌∷◌, ◌++◌, length, refl, ap, arith}
use Rattle.std.proofs.lemmas.Bool.{false≢true}
use Rattle.query.specs.Values.{is_before}

pub is_before-push_low : (xs ys : List Bool) (y : Bool) → length xs ≡ length ys
    → is_before xs ys ≡ true → is_before (xs ++ false ∷ []) (ys ++ y ∷ []) ≡ true
is_before-push_low [] [] true same before = refl
is_before-push_low [] [] false same before = refl
is_before-push_low [] (b ∷ ys) y same before = absurd (omega (arith, same))
is_before-push_low (a ∷ xs) [] y same before = absurd (omega (arith, same))
is_before-push_low (false ∷ xs) (false ∷ ys) y same before = is_before-push_low xs ys y (omega (arith, same)) before
is_before-push_low (false ∷ xs) (true ∷ ys) y same before = refl
is_before-push_low (true ∷ xs) (false ∷ ys) y same before = absurd (false≢true before)
is_before-push_low (true ∷ xs) (true ∷ ys) y same before = is_before-push_low xs ys y (omega (arith, same)) before

pub is_before-push_high : (xs ys : List Bool) (y : Bool) → length xs ≡ length ys
    → is_before xs ys ≡ true → (xs ≡ ys → y ≡ true) → is_before (xs ++ true ∷ []) (ys ++ y ∷ []) ≡ true
is_before-push_high [] [] true same before equal = refl
is_before-push_high [] [] false same before equal = equal refl
is_before-push_high [] (b ∷ ys) y same before equal = absurd (omega (arith, same))
is_before-push_high (a ∷ xs) [] y same before equal = absurd (omega (arith, same))
is_before-push_high (false ∷ xs) (false ∷ ys) y same before equal =
    is_before-push_high xs ys y (omega (arith, same)) before (λ e. equal (ap (λ zs. false ∷ zs) e))
is_before-push_high (false ∷ xs) (true ∷ ys) y same before equal = refl
is_before-push_high (true ∷ xs) (false ∷ ys) y same before equal = absurd (false≢true before)
is_before-push_high (true ∷ xs) (true ∷ ys) y same before equal =
    is_before-push_high xs ys y (omega (arith, same)) before (λ e. equal (ap (λ zs. true ∷ zs) e))
