-- What is kept under a number, behind one that was kept.
use Rattle.std.proofs.Common.{◌≡◌, ℕ, zero, suc, ◌<◌, List, [], ◌∷◌, refl, arith}
use Rattle.std.specs.Prelude.{slice_index_or}
use Rattle.flow_graph.specs.Nodes.{with_at}

pub at_same : {A : Type 0} (d : A) (n : ℕ) (x : A) (xs : List A) → slice_index_or (with_at d n x xs) n d ≡ x
at_same d zero x [] = refl
at_same d zero x (y ∷ ys) = refl
at_same d (suc n) x [] = at_same d n x []
at_same d (suc n) x (y ∷ ys) = at_same d n x ys

pub below_same : {A : Type 0} (d : A) (n : ℕ) (x : A) (xs : List A) (k : ℕ) → k < n → slice_index_or
    (with_at d n x xs) k d ≡ slice_index_or xs k d
below_same d zero x xs k h = absurd (omega (arith, h))
below_same d (suc n) x [] zero h = refl
below_same d (suc n) x (y ∷ ys) zero h = refl
below_same d (suc n) x [] (suc k) h = below_same d n x [] k (omega (arith, h))
below_same d (suc n) x (y ∷ ys) (suc k) h = below_same d n x ys k (omega (arith, h))
