-- Filters: one element more, and two tests in one.
use Rattle.std.proofs.Common.{◌≡◌, ℕ, ◌+◌, ◌<◌, Bool, true, false, ◌&&◌, List, [], ◌∷◌, ◌++◌, cond, length, take, get_or, refl, sym, ap, ◌∙◌}
use Rattle.std.specs.Prelude.{filter}
use Rattle.std.proofs.lemmas.List.Elements.{filter_more}

pub filter_at : {X : Type 0} (p : X → Bool) (xs : List X) (i : ℕ) (x : X) → i < length xs → x ≡ get_or xs i x
    → filter p (take (i + 1) xs) ≡ filter p (take i xs) ++ filter p (x ∷ [])
filter_at p xs i x low is = filter_more p xs i x low ∙ ap (λ y. filter p (take i xs) ++ filter p (y ∷ [])) (sym is)

pub ruleset filter_turn = (filter_at, filter_more)

-- one test after the other
pub filter_both : {X : Type 0} (f g : X → Bool) (xs : List X) → filter (λ x. f x && g x) xs ≡ filter g (filter f xs)
filter_both f g [] = refl
filter_both f g (x ∷ xs) =
    elim (f x) as (λ b. cond (b && g x) (x ∷ filter (λ y. f y && g y) xs) (filter (λ y. f y && g y) xs) ≡ filter g (cond b (x ∷ filter f xs) (filter f xs))) [
      | true ↦ ap (λ ys. cond (g x) (x ∷ ys) ys) (filter_both f g xs)
      | false ↦ filter_both f g xs
    ]

pub filter_three : {X : Type 0} (f g h : X → Bool) (xs : List X) → filter (λ x. f x && (g x && h x)) xs ≡ filter h (filter (λ x. f x && g x) xs)
filter_three f g h [] = refl
filter_three f g h (x ∷ xs) =
    elim (f x) as (λ b. cond (b && (g x && h x)) (x ∷ filter (λ y. f y && (g y && h y)) xs) (filter (λ y. f y && (g y && h y)) xs)
    ≡ filter h (cond (b && g x) (x ∷ filter (λ y. f y && g y) xs) (filter (λ y. f y && g y) xs))) [
      | true ↦
          elim (g x) as (λ b. cond (b && h x) (x ∷ filter (λ y. f y && (g y && h y)) xs) (filter (λ y. f y && (g y && h y)) xs)
          ≡ filter h (cond b (x ∷ filter (λ y. f y && g y) xs) (filter (λ y. f y && g y) xs))) [
            | true ↦ ap (λ ys. cond (h x) (x ∷ ys) ys) (filter_three f g h xs)
            | false ↦ filter_three f g h xs
          ]
      | false ↦ filter_three f g h xs
    ]
