-- What a whole join points to.
use Rattle.std.proofs.Common.{◌≡◌, ℕ, ◌≤◌, Bool, true, false, ◌&&◌, nat_eq, List, [], ◌∷◌, ◌++◌}
use Rattle.std.proofs.Common.{length, take, if◌then◌else◌, refl, sym, ◌∙◌, ap, subst, arith}
use Rattle.std.proofs.lemmas.List.{take_all}
use Rattle.bit_net.specs.declared.nodes.Node.{Node}
use Rattle.bit_net.specs.Runs.{Runs, Grown, Gives}
use Rattle.gl_sets.specs.declared.pairs.Pair.{Pair}
use Rattle.gl_sets.specs.Guards.{guard, has_target, targets_differ}
use Rattle.gl_sets.specs.Sets.{IsGood, IsJoin, IsMadeSoFar, chosen_guard}
use Rattle.gl_sets.proofs.BoolLemmas.{neither}
use Rattle.gl_sets.proofs.GuardLemmas.{has_target-append, guard_missing}
use Rattle.gl_sets.proofs.PointLemmas.{guard-points, Points-guard}

pub IsGood-grown : (old new : List Node) (ps : List Pair) → Grown old new → IsGood old ps → IsGood new ps
IsGood-grown old new ps g s = record {
  below = omega (arith, s.below, g.longer);
  differ = s.differ;
  points = λ choice v r. s.points choice v (g.runs choice v r);
}

-- with all targets seen, the guards are those of the set that is chosen
all_guards : (v : ℕ → Bool) (c : ℕ) (a b : List Pair) (t : ℕ) → (has_target (a ++ b) t && chosen_guard v c a b t) ≡ chosen_guard v c a b t
all_guards v c a b t = by (has_target (a ++ b) t) refl
  where
    none : (x : Bool) → guard v a t ≡ false → guard v b t ≡ false → false ≡ (if x then guard v a t else guard v b t)
    none true h k = sym h
    none false h k = sym k

    by : (x : Bool) → has_target (a ++ b) t ≡ x → (x && chosen_guard v c a b t) ≡ chosen_guard v c a b t
    by true e = refl
    by false e =
        let n = neither (has_target a t) (has_target b t) (sym (has_target-append a b t) ∙ e) in
        none (v c) (guard_missing v a t n.0) (guard_missing v b t n.1)

pub join_points : (ns : List Node) (c : ℕ) (a b ps : List Pair) → IsMadeSoFar ns (λ v t. chosen_guard v c a b t) (a ++ b) ps → IsJoin ns c a b ps
join_points ns c a b ps s = record {
  below = s.below;
  targets = λ t h. sym (has_target-append a b t) ∙ s.known t h;
  points = λ choice v r t u h k. Points-guard v ps (if v c then t else u) s.differ (λ w. s.guards choice v r w ∙ all_guards v c a b w
      ∙ by v t u w (v c) (guard-points v a t w h) (guard-points v b u w k));
}
  where
    by : (v : ℕ → Bool) (t u w : ℕ) (x : Bool) → guard v a w ≡ nat_eq t w → guard v b w ≡ nat_eq u w
        → (if x then guard v a w else guard v b w) ≡ nat_eq (if x then t else u) w
    by v t u w true h k = h
    by v t u w false h k = k

pub join_good : (old ns : List Node) (c : ℕ) (a b ps : List Pair) → Grown old ns → targets_differ ps ≡ true → IsGood old a → IsGood old b
    → IsJoin ns c a b ps → IsGood ns ps
join_good old ns c a b ps g d s k j = record {
  below = j.below;
  differ = d;
  points = λ choice v r.
      (let r' = g.runs choice v r in
      let x = s.points choice v r' in
      let y = k.points choice v r' in
      ((if v c then x.0 else y.0), j.points choice v r x.0 y.0 x.1 y.1));
}

nil_end : (xs : List Pair) → xs ≡ xs ++ []
nil_end [] = refl
nil_end (x ∷ xs) = ap (λ l. x ∷ l) (nil_end xs)

-- past the end of a, the pairs of a and none of b are seen
pub join_first : (ns : List Node) (c : ℕ) (a b items ps : List Pair) (i : ℕ) → items ≡ a → length items ≤ i
    → IsMadeSoFar ns (λ v t. chosen_guard v c a b t) (take i a) ps → IsMadeSoFar ns (λ v t. chosen_guard v c a b t) (a ++ []) ps
join_first ns c a b items ps i same_items all s =
    let whole : take i a ≡ a ++ [] = take_all i a (omega (arith, ap length same_items)) ∙ nil_end a in
    subst (λ (l : List Pair). IsMadeSoFar ns (λ v t. chosen_guard v c a b t) l ps) whole s

-- the gate that the two guards are chosen by
pub chosen_value : (old new : List Node) (c g x y : ℕ) (a b : List Pair) (t : ℕ) → Grown old new
    → Gives new g (λ choice v. if v c then v x else v y) → Gives old x (λ choice v. guard v a t) → Gives old y (λ choice v. guard v b t)
    → (choice v : ℕ → Bool) → Runs new choice v → v g ≡ chosen_guard v c a b t
chosen_value old new c g x y a b t grown s k m choice v r =
    let r' = grown.runs choice v r in
    s.value choice v r ∙ by (v c) (v x) (v y) (k.value choice v r') (m.value choice v r')
  where
    by : (z p q : Bool) → p ≡ guard v a t → q ≡ guard v b t → (if z then p else q) ≡ (if z then guard v a t else guard v b t)
    by true p q e f = e
    by false p q e f = f
