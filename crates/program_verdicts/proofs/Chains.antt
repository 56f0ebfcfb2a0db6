-- Outputs along edges on which a rank falls: they do not depend on the number of steps, if that is above the rank.
use Rattle.std.proofs.Common.{◌≡◌, ℕ, zero, suc, ◌<◌, Bool, true, false, List, [], ◌∷◌, map, filter, refl, ap, ◌∙◌, arith}
use Rattle.std.specs.Prelude.{if◌then◌else◌}
use Rattle.program_verdicts.specs.Outputs.{output}

-- each element of a list
unfoldable pub EachOf : (ℕ → Type 0) → List ℕ → Type 0
EachOf P [] = Unit {0}
EachOf P (x ∷ xs) = P x × EachOf P xs

map_same : {O : Type 0} (h k : ℕ → O) (xs : List ℕ) → EachOf (λ x. h x ≡ k x) xs → map h xs ≡ map k xs
unfolding EachOf
map_same h k [] same = refl
map_same h k (x ∷ xs) (e, es) = let rest = map_same h k xs es in cc

pub map_all : {O : Type 0} (h k : ℕ → O) → ((x : ℕ) → h x ≡ k x) → (xs : List ℕ) → map h xs ≡ map k xs
map_all h k same [] = refl
map_all h k same (x ∷ xs) = let here = same x in let rest = map_all h k same xs in cc

each_so : (P Q : ℕ → Type 0) → ((x : ℕ) → P x → Q x) → (xs : List ℕ) → EachOf P xs → EachOf Q xs
unfolding EachOf
each_so P Q so [] all = tt
each_so P Q so (x ∷ xs) (p, ps) = (so x p, each_so P Q so xs ps)

kept_if : (P : ℕ → Type 0) (b : Bool) (x : ℕ) (xs : List ℕ) → (b ≡ true → P x) → EachOf P xs → EachOf P (if b then x ∷ xs else xs)
unfolding EachOf
kept_if P true x xs here rest = (here refl, rest)
kept_if P false x xs here rest = rest

pub each_kept : (P : ℕ → Type 0) (test : ℕ → Bool) → ((x : ℕ) → test x ≡ true → P x) → (xs : List ℕ) → EachOf P (filter test xs)
unfolding EachOf
each_kept P test so [] = tt
each_kept P test so (x ∷ xs) = kept_if P (test x) x (filter test xs) (so x) (each_kept P test so xs)

-- along each edge the rank falls
unfoldable pub Falls : (ℕ → List ℕ) → (ℕ → ℕ) → Type 0
Falls kept rank = (f : ℕ) → EachOf (λ g. rank g < rank f) (kept f)

module _ {O : Type 0} (make : ℕ → List O → O) (nothing : O) (kept : ℕ → List ℕ) (rank : ℕ → ℕ) (falls : Falls kept rank) where
  stable : (n m f : ℕ) → rank f < n → rank f < m → output make nothing kept n f ≡ output make nothing kept m f
  unfolding output Falls
  stable zero m f low lower = absurd (omega (arith, low))
  stable (suc n) zero f low lower = absurd (omega (arith, lower))
  stable (suc n) (suc m) f low lower =
      ap (make f)
      (map_same (output make nothing kept n) (output make nothing kept m) (kept f)
      (each_so (λ g. rank g < rank f) (λ g. output make nothing kept n g ≡ output make nothing kept m g)
      (λ g less. stable n m g (omega (arith, less, low)) (omega (arith, less, lower))) (kept f) (falls f)))

  pub made_of : (n : ℕ) → ((f : ℕ) → rank f < n) → (f : ℕ)
      → output make nothing kept n f ≡ make f (map (output make nothing kept n) (kept f))
  unfolding output
  made_of n below f = stable n (suc n) f (below f) (omega (arith, below f))

  same_for : (v : ℕ → O) → ((f : ℕ) → v f ≡ make f (map v (kept f))) → (n f : ℕ) → rank f < n → v f ≡ output make nothing kept n f
  unfolding output Falls
  same_for v is zero f low = absurd (omega (arith, low))
  same_for v is (suc n) f low =
      is f
      ∙ ap (make f)
      (map_same v (output make nothing kept n) (kept f)
      (each_so (λ g. rank g < rank f) (λ g. v g ≡ output make nothing kept n g)
      (λ g less. same_for v is n g (omega (arith, less, low))) (kept f) (falls f)))

  pub only_one : (v : ℕ → O) → ((f : ℕ) → v f ≡ make f (map v (kept f))) → (n : ℕ) → ((f : ℕ) → rank f < n)
      → (f : ℕ) → v f ≡ output make nothing kept n f
  only_one v is n below f = same_for v is n f (below f)
