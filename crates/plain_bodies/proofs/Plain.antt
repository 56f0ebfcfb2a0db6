-- What of a tree is plain, where the tree is.
use Rattle.std.proofs.Common.{◌≡◌, Bool, true, false, not, ◌&&◌, List, [], ◌∷◌, map, refl, sym}
use Rattle.std.proofs.lemmas.Bool.{true≢false}
use Rattle.plain_bodies.specs.Plain.{all_of}
use Rattle.plain_bodies.proofs.Walk.{Each}

pub never : {A : Type 0} → false ≡ true → A
never h = absurd (true≢false (sym h))

pub first_so : (a b : Bool) → (a && b) ≡ true → a ≡ true
first_so true b h = refl
first_so false b h = h

pub second_so : (a b : Bool) → (a && b) ≡ true → b ≡ true
second_so true b h = h
second_so false b h = never h

pub not_so : (b : Bool) → not b ≡ true → b ≡ false
not_so true h = never h
not_so false h = refl

pub both_so : (a b : Bool) → a ≡ true → b ≡ true → (a && b) ≡ true
both_so true b h k = k
both_so false b h k = h

-- what holds of each part of a list that is plain
pub each_so : {A B : Type 0} (f : A → B) (so : A → Bool) (P : B → Type 0) (xs : List ((a : A) × (so a ≡ true → P (f a)))) → all_of (map so (map (λ x. x.0) xs)) ≡ true → Each P (map f (map (λ x. x.0) xs))
each_so f so P [] h = tt
each_so f so P (x ∷ xs) h = (x.1 (first_so (so x.0) (all_of (map so (map (λ x. x.0) xs))) h), each_so f so P xs (second_so (so x.0) (all_of (map so (map (λ x. x.0) xs))) h))
