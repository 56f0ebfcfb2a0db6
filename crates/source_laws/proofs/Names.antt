-- What a call does, with names that come later and without them.
use Rattle.std.proofs.Common.{◌≡◌, ℕ, zero, suc, ◌+◌, ◌<◌, Bool, true, false, List, [], ◌∷◌, ◌++◌, length, refl, sym, ap, ◌∙◌, arith}
use Rattle.std.proofs.lemmas.Bool.{eq-eqb}
use Rattle.std.specs.Prelude.{nat_eq, ◌||◌, Option, Some, None, slice_index_or, if◌then◌else◌}
use Rattle.std.specs.List.{list_any}
use Rattle.sc_world.specs.Tree.{Ty, Exp, Exps, Function}
use Rattle.sc_world.specs.Source.{Source, effect, effect_or, effect_of_name, place_in, fits_signature, known_if, known_at, known_body, sum_at}
use Rattle.source_laws.specs.Named.{Tables, with_tables, IsFront, SignaturesAgree, CalledBelow}

-- a text of the front stands at the same place
in_front : {A : Type 0} (xs ys : List A) (n : ℕ) (d : A) → n < length xs → slice_index_or xs n d ≡ slice_index_or (xs ++ ys) n d
in_front [] ys n d low = absurd (omega (arith, low))
in_front (x ∷ xs) ys zero d low = refl
in_front (x ∷ xs) ys (suc n) d low = in_front xs ys n d (omega (arith, low))

pub text_same : (old new : List (List ℕ)) → IsFront old new → (n : ℕ) → n < length old
    → slice_index_or old n [] ≡ slice_index_or new n []
text_same old new front n low = in_front old front.added n [] low ∙ ap (λ (names : List (List ℕ)). slice_index_or names n []) (sym front.grown)

-- what is found at a place of a list is in it
placed : (k g : ℕ) (ks : List ℕ) (j : ℕ) → place_in k g ks ≡ Some j → list_any (nat_eq g) ks ≡ true
placed k g [] j e = cc
placed k g (m ∷ ms) j e =
    (elim (nat_eq g m) as (λ b. (if b then Some k else place_in (k + 1) g ms) ≡ Some j → (b || list_any (nat_eq g) ms) ≡ true) [
      | true ↦ λ _. refl
      | false ↦ λ h. placed (k + 1) g ms j h
    ]) e

or_right : (b c : Bool) → c ≡ true → (b || c) ≡ true
or_right true c h = refl
or_right false c h = h

pub there : (ks : List ℕ) (n : ℕ) → n < length ks → list_any (nat_eq (slice_index_or ks n 0)) ks ≡ true
there [] n low = absurd (omega (arith, low))
there (k ∷ ks) zero low = λ i. eq-eqb k k refl i || list_any (nat_eq k) ks
there (k ∷ ks) (suc n) low =
    or_right (nat_eq (slice_index_or ks n 0) k) (list_any (nat_eq (slice_index_or ks n 0)) ks) (there ks n (omega (arith, low)))

module _ (old new : Tables) (front : IsFront old.names new.names) (s : Source) (agree : SignaturesAgree old new s) where
  abbrev one : Source
  one = with_tables s old

  abbrev other : Source
  other = with_tables s new

  known_at_same : (g : ℕ) (es : Exps) (t : Ty) (o : Option ℕ) → place_in 0 g s.kept ≡ o → known_at one g es t o ≡ known_at other g es t o
  known_at_same g es t None e = refl
  known_at_same g es t (Some k) e = λ i. known_if (fits_signature (agree.same g (placed 0 g s.kept k e) i) es t) k (sum_at s k)

  known_body_same : (body : Option ℕ) (es : Exps) (t : Ty) → known_body one body es t ≡ known_body other body es t
  known_body_same None es t = refl
  known_body_same (Some g) es t = known_at_same g es t (place_in 0 g s.kept) refl

  pub effect_same : (f : Exp) (es : Exps) (t : Ty) → CalledBelow (length old.names) f → effect one f es t ≡ effect other f es t
  effect_same (Function n body u) es t low = λ i. effect_or
      (effect_of_name s (text_same old.names new.names front n.at low i))
      (known_body_same body es t i)
  effect_same _ es t low = refl
