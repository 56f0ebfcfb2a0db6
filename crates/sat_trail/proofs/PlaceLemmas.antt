-- The places of variables, and steps by their places.

use Rattle.std.proofs.Common.{◌≡◌, ◌≢◌, ℕ, zero, suc, ◌+◌, ◌<◌, ◌≤◌, inl, inr, Bool, true, false, not, List, [], ◌∷◌, ◌++◌, length, length-append, length-set, length-take, take, drop, get_or, set, slice_get, slice_index, None, Some, refl, sym, subst, ap, ◌∙◌, arith, get_or-set_other, get_or-set_same}
use Rattle.std.proofs.lemmas.Bool.{true≢false, false≢true}
use Rattle.std.proofs.Math.Seq.{get_or-append_seam}
use Rattle.std.proofs.lemmas.List.{get_or_append_left, get_or-take, length-take-le, take_more_set}
use Rattle.std.proofs.lemmas.Option.{slice_get-get_or, slice_get_within, get_or_from_slice_get}
use Rattle.sat_base.specs.declared.literal.Lit.{Lit}
use Rattle.sat_base.specs.Logic.{lit_true, negation}
use Rattle.sat_trail.specs.declared.trail.Step.{Step}
use Rattle.sat_trail.specs.Order.{IsOrder, differs}
use Rattle.sat_trail.specs.Steps.{AllTrue, Tells}
use Rattle.sat_clauses.proofs.TruthLemmas.{same_or_not, lt_or_le, told, other_sign}

at_default : (order : List Step) (k : ℕ) (d e : Step) → k < length order → (get_or order k d).lit.var ≡ (get_or order k e).lit.var
at_default [] k d e h = absurd (omega (arith, h))
at_default (x ∷ xs) zero d e h = refl
at_default (x ∷ xs) (suc k) d e h = at_default xs k d e (omega (arith, h))

-- the step that stands behind the first k takes the place of its variable
pub order_exchanged : (order : List Step) (places : List ℕ) (k place : ℕ) (s m : Step)
    → IsOrder order places → s.lit.var < length places → place ≡ slice_index places s.lit.var → k ≤ place → m ≡ get_or order k m
    → IsOrder (set (set order place m) k s) (set (set places m.lit.var place) s.lit.var k)
order_exchanged order places k place s m o exists at before is =
    let x = s.lit.var in
    let y = m.lit.var in
    let n = length places in
    let inside : place < n = subst (λ p. p < n) (sym at) (o.inside x exists) in
    let same = o.same in
    let len_order : length (set order place m) ≡ length order = length-set order place m in
    let len_places : length (set places y place) ≡ n = length-set places y place in
    let len_places_2 : length (set (set places y place) x k) ≡ n = length-set (set places y place) x k ∙ len_places in
    let len_order_2 : length (set (set order place m) k s) ≡ length order = length-set (set order place m) k s ∙ len_order in
    let y_below : y < n = subst (λ t. t.lit.var < n) (sym is) (o.bounded k m (omega (arith, before, inside, same))) in
    let x_there : (d : Step) → (get_or order place d).lit.var ≡ x = λ d. ap (λ p. (get_or order p d).lit.var) at ∙ o.inverse x d exists in
    let y_there : (d : Step) → (get_or order k d).lit.var ≡ y = λ d. at_default order k d m (omega (arith, before, inside, same)) ∙ ap (λ t. t.lit.var) (sym is) in
    let new_place : ℕ → ℕ = λ z. slice_index (set (set places y place) x k) z in
    let here : new_place x ≡ k = get_or-set_same (set places y place) x k 0 (omega (arith, exists, len_places)) in
    let there : y ≢ x → new_place y ≡ place = λ ne. get_or-set_other (set places y place) x y k 0 ne ∙ get_or-set_same places y place 0 y_below in
    let elsewhere : (z : ℕ) → z ≢ x → z ≢ y → new_place z ≡ slice_index places z =
    λ z ne ne2. get_or-set_other (set places y place) x z k 0 ne ∙ get_or-set_other places y z place 0 ne2 in
    let at_k : (d : Step) → get_or (set (set order place m) k s) k d ≡ s = λ d. get_or-set_same (set order place m) k s d (omega (arith, before, inside, same, len_order)) in
    let at_place : (d : Step) → place ≢ k → get_or (set (set order place m) k s) place d ≡ m =
    λ d ne. get_or-set_other (set order place m) k place s d ne ∙ get_or-set_same order place m d (omega (arith, inside, same)) in
    let at_other : (j : ℕ) (d : Step) → j ≢ k → j ≢ place → get_or (set (set order place m) k s) j d ≡ get_or order j d =
    λ j d ne ne2. get_or-set_other (set order place m) k j s d ne ∙ get_or-set_other order place j m d ne2 in
    record {
      same = len_order_2 ∙ same ∙ sym len_places_2;
      inside = λ z below.
          let z_below : z < n = omega (arith, below, len_places_2) in
          elim (same_or_not z x) [
            | inl e ↦ rw (e, here, len_places_2) (omega (arith, before, inside))
            | inr ne ↦
                elim (same_or_not z y) [
                  | inl e ↦ rw (e, there (λ w. absurd (ne (e ∙ w))), len_places_2) inside
                  | inr ne2 ↦ rw (elsewhere z ne ne2, len_places_2) (o.inside z z_below)
                ]
          ];
      inverse = λ z d below.
          let z_below : z < n = omega (arith, below, len_places_2) in
          elim (same_or_not z x) [
            | inl e ↦
                ap (λ w. (get_or (set (set order place m) k s) (new_place w) d).lit.var) e
                ∙ ap (λ p. (get_or (set (set order place m) k s) p d).lit.var) here
                ∙ ap (λ t. t.lit.var) (at_k d)
                ∙ sym e
            | inr ne ↦
                elim (same_or_not z y) [
                  | inl e ↦
                      ap (λ w. (get_or (set (set order place m) k s) (new_place w) d).lit.var) e
                      ∙ ap (λ p. (get_or (set (set order place m) k s) p d).lit.var) (there (λ w. absurd (ne (e ∙ w))))
                      ∙ ap (λ t. t.lit.var)
                      (at_place d (λ w. absurd (ne (e ∙ sym (y_there d) ∙ ap (λ p. (get_or order p d).lit.var) (sym w) ∙ x_there d))))
                      ∙ sym e
                  | inr ne2 ↦
                      let p = slice_index places z in
                      let back : (get_or order p d).lit.var ≡ z = o.inverse z d z_below in
                      ap (λ w. (get_or (set (set order place m) k s) w d).lit.var) (elsewhere z ne ne2)
                      ∙ ap (λ t. t.lit.var)
                      (at_other p d
                      (λ w. absurd (ne2 (sym back ∙ ap (λ p. (get_or order p d).lit.var) w ∙ y_there d)))
                      (λ w. absurd (ne (sym back ∙ ap (λ p. (get_or order p d).lit.var) w ∙ x_there d))))
                      ∙ back
                ]
          ];
      bounded = λ j d below.
          let j_below : j < length order = omega (arith, below, len_order_2) in
          elim (same_or_not j k) [
            | inl e ↦ rw len_places_2 (subst (λ t. t.lit.var < n) (sym (ap (λ w. get_or (set (set order place m) k s) w d) e ∙ at_k d)) exists)
            | inr ne ↦
                elim (same_or_not j place) [
                  | inl e ↦
                      rw len_places_2
                      (subst (λ t. t.lit.var < n)
                      (sym (ap (λ w. get_or (set (set order place m) k s) w d) e ∙ at_place d (λ w. absurd (ne (e ∙ w))))) y_below)
                  | inr ne2 ↦ rw len_places_2 (subst (λ t. t.lit.var < n) (sym (at_other j d ne ne2)) (o.bounded j d j_below))
                ]
          ];
    }

-- a new variable stands behind all others
pub order_appended : (order : List Step) (places : List ℕ) (x : ℕ) (s : Step) → IsOrder order places → x ≡ length order → s.lit.var ≡ x
    → IsOrder (order ++ s ∷ []) (places ++ x ∷ [])
order_appended order places x s o is var =
    let n = length places in
    let same = o.same in
    let len_order : length (order ++ s ∷ []) ≡ length order + 1 = length-append order (s ∷ []) in
    let len_places : length (places ++ x ∷ []) ≡ n + 1 = length-append places (x ∷ []) in
    let x_last : x ≡ n = is ∙ same in
    let old_place : (z : ℕ) → z < n → slice_index (places ++ x ∷ []) z ≡ slice_index places z = λ z below. get_or_append_left places (x ∷ []) 0 z below in
    let new_place : slice_index (places ++ x ∷ []) x ≡ x = ap (λ k. get_or (places ++ x ∷ []) k 0) x_last ∙ get_or-append_seam places x [] 0 in
    let old_step : (j : ℕ) (d : Step) → j < length order → get_or (order ++ s ∷ []) j d ≡ get_or order j d = λ j d below. get_or_append_left order (s ∷ []) d j below in
    let new_step : (d : Step) → get_or (order ++ s ∷ []) x d ≡ s = λ d. ap (λ k. get_or (order ++ s ∷ []) k d) is ∙ get_or-append_seam order s [] d in
    record {
      same = len_order ∙ ap (λ k. k + 1) same ∙ sym len_places;
      inside = λ z below.
          elim (lt_or_le z n) [
            | inl old ↦ let i = o.inside z old in rw (old_place z old, len_places) (omega (arith, i))
            | inr past ↦ let e : z ≡ x = omega (arith, below, past, len_places, x_last) in rw (e, new_place, len_places) (omega (arith, x_last))
          ];
      inverse = λ z d below.
          elim (lt_or_le z n) [
            | inl old ↦
                ap (λ p. (get_or (order ++ s ∷ []) p d).lit.var) (old_place z old)
                ∙ ap (λ t. t.lit.var) (old_step (slice_index places z) d (let i = o.inside z old in omega (arith, i, same)))
                ∙ o.inverse z d old
            | inr past ↦
                let e : z ≡ x = omega (arith, below, past, len_places, x_last) in
                ap (λ w. (get_or (order ++ s ∷ []) (slice_index (places ++ x ∷ []) w) d).lit.var) e
                ∙ ap (λ p. (get_or (order ++ s ∷ []) p d).lit.var) new_place
                ∙ ap (λ t. t.lit.var) (new_step d)
                ∙ var
                ∙ sym e
          ];
      bounded = λ j d below.
          elim (lt_or_le j (length order)) [
            | inl old ↦ let b = o.bounded j d old in rw (ap (λ t. t.lit.var) (old_step j d old), len_places) (omega (arith, b))
            | inr past ↦
                let e : j ≡ x = omega (arith, below, past, len_order, is) in
                let v : (get_or (order ++ s ∷ []) j d).lit.var ≡ x = ap (λ w. (get_or (order ++ s ∷ []) w d).lit.var) e ∙ ap (λ t. t.lit.var) (new_step d) ∙ var in
                omega (arith, v, x_last, len_places)
          ];
    }

-- the first k of the first n steps
pub take_within : {A : Type 0} (k n : ℕ) (xs : List A) → k ≤ n → take k (take n xs) ≡ take k xs
take_within zero n xs h = refl
take_within (suc k) zero xs h = absurd (omega (arith, h))
take_within (suc k) (suc n) [] h = refl
take_within (suc k) (suc n) (x ∷ xs) h = ap (λ t. x ∷ t) (take_within k n xs (omega (arith, h)))

pub length_first : {A : Type 0} (n : ℕ) (xs : List A) → length (take n xs) ≤ n
length_first n xs = let e = length-take n xs in omega (arith, e)

-- a step of the trail by its place in the order
pub step_at : (order : List Step) (len k place : ℕ) (s : Step) → place < k → k ≤ length (take len order) → s ≡ get_or order place s
    → slice_get (take k (take len order)) place ≡ Some s
step_at order len k place s below within is =
    let wide = length_first len order in
    let size : length (take k (take len order)) ≡ k = length-take-le k (take len order) within in
    slice_get-get_or (take k (take len order)) place s (omega (arith, size, below))
    ∙ ap Some (get_or-take k (take len order) place s below ∙ get_or-take len order place s (omega (arith, below, within, wide)) ∙ sym is)

pub true_at : (f : ℕ → Bool) (steps : List Step) (j : ℕ) (s : Step) → AllTrue f steps → slice_get steps j ≡ Some s → lit_true f s.lit ≡ true
true_at f [] j s all h = absurd (cc h)
true_at f (x ∷ xs) zero s all h = let e : x ≡ s = cc h in subst (λ t. lit_true f t.lit ≡ true) e all.0
true_at f (x ∷ xs) (suc j) s all h = true_at f xs j s all.1 h

pub var_at : (order : List Step) (places : List ℕ) (x place : ℕ) (s : Step) → IsOrder order places → slice_get places x ≡ Some place → s ≡ get_or order place s → s.lit.var ≡ x
var_at order places x place s o found is =
    let at : slice_index places x ≡ place = get_or_from_slice_get places x place 0 found in
    ap (λ t. t.lit.var) is ∙ ap (λ p. (get_or order p s).lit.var) (sym at) ∙ o.inverse x s (slice_get_within places x place found)

-- a variable that has a place among the first k has the value of the step there
pub told_before : (order : List Step) (places : List ℕ) (len k x place : ℕ) (s : Step)
    → IsOrder order places → slice_get places x ≡ Some place → place < k → k ≤ length (take len order) → s ≡ get_or order place s
    → Tells (take k (take len order)) (record { var = x; neg = false }) (not s.lit.neg)
told_before order places len k x place s o found below within is f all =
    told f s.lit x (var_at order places x place s o found is) (true_at f (take k (take len order)) place s all (step_at order len k place s below within is))

pub false_before : (order : List Step) (places : List ℕ) (len k place : ℕ) (l : Lit) (s : Step)
    → IsOrder order places → slice_get places l.var ≡ Some place → place < k → k ≤ length (take len order) → s ≡ get_or order place s
    → (s.lit.neg ≡ l.neg → ⊥) → Tells (take k (take len order)) l false
false_before order places len k place l s o found below within is other f all =
    other_sign f s.lit l (var_at order places l.var place s o found is) other
    (true_at f (take k (take len order)) place s all (step_at order len k place s below within is))

-- the first k steps and one more
pub put_behind : (order : List Step) (len k : ℕ) (s : Step) → k < length order → k ≤ len
    → take (k + 1) (set order k s) ≡ take k (take len order) ++ s ∷ []
put_behind order len k s inside within = take_more_set order k s inside ∙ ap (λ t. t ++ s ∷ []) (sym (take_within k len order within))

pub split_at : {A : Type 0} (xs : List A) (k : ℕ) (d : A) → slice_get xs k ≡ Some d → xs ≡ take k xs ++ d ∷ drop (k + 1) xs
split_at [] k d h = absurd (cc h)
split_at (x ∷ xs) zero d h = let e : x ≡ d = cc h in ap (λ t. t ∷ xs) e
split_at (x ∷ xs) (suc k) d h = let e : suc k + 1 ≡ suc (k + 1) = omega arith in rw e (ap (λ t. x ∷ t) (split_at xs k d h))

pub drop_at : {A : Type 0} (xs : List A) (k : ℕ) (d : A) → slice_get xs k ≡ Some d → drop k xs ≡ d ∷ drop (k + 1) xs
drop_at [] k d h = absurd (cc h)
drop_at (x ∷ xs) zero d h = let e : x ≡ d = cc h in ap (λ t. t ∷ xs) e
drop_at (x ∷ xs) (suc k) d h = let e : suc k + 1 ≡ suc (k + 1) = omega arith in rw e (drop_at xs k d h)

pub differ_not_same : (a b : Bool) → differs a b ≡ true → a ≡ b → ⊥
differ_not_same true true h e = absurd (false≢true h)
differ_not_same true false h e = absurd (true≢false e)
differ_not_same false true h e = absurd (false≢true e)
differ_not_same false false h e = absurd (false≢true h)

pub some_same : {A : Type 0} (a b : A) → Some a ≡ Some b → a ≡ b
some_same a b e = cc e

-- the steps after the one at place k gave way to its negation
pub flip_steps : (order : List Step) (len k : ℕ) (steps : List Step) (s m : Step) (l : Lit) → take len order ≡ steps → k < length steps
    → slice_get steps k ≡ Some s → m ≡ get_or order k m → l ≡ negation m.lit
    → take (k + 1) (set order k (record { lit = l; implied = true; reason = None })) ≡ take k steps ++ record { lit = negation s.lit; implied = true; reason = None } ∷ []
flip_steps order len k steps s m l view inside found is negated =
    let size : length (take len order) ≡ length steps = ap length view in
    let wide = length-take len order in
    let same : m ≡ s =
    is
    ∙ sym (get_or-take len order k m (omega (arith, size, wide, inside)))
    ∙ ap (λ xs. get_or xs k m) view
    ∙ get_or_from_slice_get steps k s m found in
    put_behind order len k (record { lit = l; implied = true; reason = None }) (omega (arith, size, wide, inside)) (omega (arith, size, wide, inside))
    ∙ ap (λ xs. take k xs ++ record { lit = l; implied = true; reason = None } ∷ []) view
    ∙ ap (λ t. take k steps ++ record { lit = t; implied = true; reason = None } ∷ []) (negated ∙ ap (λ t. negation t.lit) same)
