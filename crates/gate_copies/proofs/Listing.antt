-- Lists that loops make, one element after another, and what a set points to among its targets.
use Rattle.std.proofs.Common.{◌≡◌, ℕ, ◌+◌, ◌<◌, ◌≤◌, Bool, true, false, nat_lt, ◌||◌, List, [], ◌∷◌, ◌++◌, length, map, take, get_or, if◌then◌else◌, max, refl, sym, ◌∙◌, ap, arith}
use Rattle.std.proofs.lemmas.Bool.{ltb-false}
use Rattle.std.proofs.lemmas.List.{map-append, take_more, take_all, length-map}
use Rattle.gl_sets.specs.declared.pairs.Pair.{Pair}
use Rattle.gl_sets.specs.Guards.{Points, held, targets_of}
use Rattle.gate_copies.specs.declared.objects.Object.{Object}
use Rattle.gate_copies.specs.Objects.{cells_in, most}
use Rattle.gate_copies.specs.Widths.{leads_to_some}

pub mapped_step : {A B : Type 0} (f : A → B) (xs : List A) (i : ℕ) (d : A) (made new : List B) (y : B) → i < length xs → new ≡ made ++ y ∷ []
    → y ≡ f (get_or xs i d) → made ≡ map f (take i xs) → new ≡ map f (take (i + 1) xs)
mapped_step f xs i d made new y low pushed is h =
    pushed ∙ ap (λ ys. ys ++ y ∷ []) h ∙ ap (λ z. map f (take i xs) ++ z ∷ []) is
    ∙ sym (ap (map f) (take_more xs i d low) ∙ map-append f (take i xs) (get_or xs i d ∷ []))

pub mapped_whole : {A B : Type 0} (f : A → B) (xs : List A) (i : ℕ) (made : List B) → length xs ≤ i → made ≡ map f (take i xs) → made ≡ map f xs
mapped_whole f xs i made high h = h ∙ ap (map f) (take_all i xs high)

pub map_twice : {A B C : Type 0} (f : B → C) (g : A → B) (xs : List A) → map f (map g xs) ≡ map (λ x. f (g x)) xs
map_twice f g [] = refl
map_twice f g (x ∷ xs) = ap (λ ys. f (g x) ∷ ys) (map_twice f g xs)

-- a function of the targets of pairs
pub by_targets : {B : Type 0} (f : ℕ → B) (ps : List Pair) → map (λ p. f p.target) ps ≡ map f (targets_of ps)
unfolding targets_of
by_targets f [] = refl
by_targets f (p ∷ ps) = ap (λ ys. f p.target ∷ ys) (by_targets f ps)

pub targets_wide : {B : Type 0} (f : ℕ → B) (ps : List Pair) → length (map f (targets_of ps)) ≡ length ps
targets_wide f ps = ap length (sym (by_targets f ps)) ∙ length-map ps (λ p. f p.target)

pub objects_wide : (f : ℕ → List ℕ) (ps : List Pair) (os : List Object) → map cells_in os ≡ map f (targets_of ps) → length os ≡ length ps
objects_wide f ps os e = sym (length-map os cells_in) ∙ ap length e ∙ targets_wide f ps

-- how long lists are at most

pub most_more : (xs : List (List ℕ)) (x : List ℕ) → most (xs ++ x ∷ []) ≡ max (most xs) (length x)
most_more [] x = omega arith
most_more (y ∷ xs) x = omega (arith, most_more xs x)

pub most_step : {A : Type 0} (f : A → List ℕ) (xs : List A) (i : ℕ) (d : A) (m n : ℕ) → i < length xs → n ≡ max m (length (f (get_or xs i d)))
    → m ≡ most (map f (take i xs)) → n ≡ most (map f (take (i + 1) xs))
most_step f xs i d m n low is h =
    is ∙ ap (λ k. max k (length (f (get_or xs i d)))) h ∙ sym (most_more (map f (take i xs)) (f (get_or xs i d)))
    ∙ sym (ap (λ ys. most (map f ys)) (take_more xs i d low) ∙ ap most (map-append f (take i xs) (get_or xs i d ∷ [])))

neither : (a b : Bool) → a || b ≡ false → (a ≡ false) × (b ≡ false)
neither false b e = (refl, e)
neither true b e = absurd (cc)

-- where no target goes to a place, that to which the set points does not
none_among : (v : ℕ → Bool) (f : ℕ → ℕ) (ps : List Pair) (t : ℕ) (rest : List ℕ) → held v ps ≡ t ∷ rest
    → leads_to_some (map f (targets_of ps)) ≡ false → f t ≡ 0
unfolding held targets_of
none_among v f [] t rest e none = absurd (cc)
none_among v f (p ∷ ps) t rest e none = by (v p.guard.at) e (λ h. none_among v f ps t rest h parts.1)
  where
    parts : (nat_lt 0 (f p.target) ≡ false) × (leads_to_some (map f (targets_of ps)) ≡ false)
    parts = neither (nat_lt 0 (f p.target)) (leads_to_some (map f (targets_of ps))) none

    by : (b : Bool) → (if b then p.target ∷ held v ps else held v ps) ≡ t ∷ rest → (held v ps ≡ t ∷ rest → f t ≡ 0) → f t ≡ 0
    by true is later =
        let same : p.target ≡ t = (cc) in
        let low : f p.target ≤ 0 = ltb-false 0 (f p.target) parts.0 in
        ap f (sym same) ∙ omega (arith, low)
    by false is later = later is

pub leads_to_none : (v : ℕ → Bool) (f : ℕ → ℕ) (ps : List Pair) (t : ℕ) → Points v ps t → leads_to_some (map f (targets_of ps)) ≡ false → f t ≡ 0
leads_to_none v f ps t points none = none_among v f ps t [] points.one none

-- the list of the target to which a set points is no longer than the longest
most_among : (v : ℕ → Bool) (g : ℕ → List ℕ) (ps : List Pair) (t : ℕ) (rest : List ℕ) → held v ps ≡ t ∷ rest → length (g t) ≤ most (map g (targets_of ps))
unfolding held targets_of
most_among v g [] t rest e = absurd (cc)
most_among v g (p ∷ ps) t rest e = by (v p.guard.at) e (λ h. most_among v g ps t rest h)
  where
    by : (b : Bool) → (if b then p.target ∷ held v ps else held v ps) ≡ t ∷ rest → (held v ps ≡ t ∷ rest → length (g t) ≤ most (map g (targets_of ps)))
        → length (g t) ≤ max (length (g p.target)) (most (map g (targets_of ps)))
    by true is later =
        let same : p.target ≡ t = (cc) in
        let wide : length (g p.target) ≡ length (g t) = ap (λ k. length (g k)) same in
        omega (arith, wide)
    by false is later = omega (arith, later is)

pub most_at : (v : ℕ → Bool) (g : ℕ → List ℕ) (ps : List Pair) (t : ℕ) → Points v ps t → length (g t) ≤ most (map g (targets_of ps))
most_at v g ps t points = most_among v g ps t [] points.one
