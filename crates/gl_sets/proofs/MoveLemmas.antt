-- Pairs with other targets, and tests of targets.
use Rattle.std.proofs.Common.{◌≡◌, ℕ, zero, suc, ◌+◌, ◌<◌, ◌≤◌, Bool, true, false, ◌&&◌, ◌||◌, nat_eq, if◌then◌else◌}
use Rattle.std.proofs.Common.{List, [], ◌∷◌, ◌++◌, length, map, take, take_all, get_or, refl, sym, ◌∙◌, ap, subst, arith, add-one}
use Rattle.std.specs.List.{list_any}
use Rattle.bit_net.specs.declared.nodes.Gate.{Gate}
use Rattle.bit_net.specs.declared.nodes.Node.{Node}
use Rattle.bit_net.specs.Runs.{Runs, Grown, Always}
use Rattle.gl_sets.specs.declared.pairs.Pair.{Pair}
use Rattle.gl_sets.specs.Guards.{Points, held, guard, has_target, targets_of, with_targets, tested, Tests}
use Rattle.gl_sets.specs.Sets.{IsGood, IsMoved, IsMovedSoFar, IsMadeSoFar, IsWhere}
use Rattle.gl_sets.proofs.BoolLemmas.{or_false, or_assoc}
use Rattle.gl_sets.proofs.GuardLemmas.{guard_missing, guard-push, guard-nil}
use Rattle.gl_sets.proofs.PointLemmas.{guard-points, Points-guard}
use Rattle.gl_sets.proofs.MadeLemmas.{made_none, made_same_target}

-- one more pair with another target
with_targets-more : (ps : List Pair) (ts : List ℕ) (i : ℕ) (d : Pair) (e : ℕ) → i < length ps → i < length ts
    → with_targets (take (suc i) ps) (take (suc i) ts) ≡ with_targets (take i ps) (take i ts) ++ record {
      guard =
          (get_or ps i d).guard;
      target = get_or ts i e;
    } ∷ []
unfolding with_targets
with_targets-more [] ts i d e h k = absurd (omega arith)
with_targets-more (p ∷ ps) [] i d e h k = absurd (omega arith)
with_targets-more (p ∷ ps) (t ∷ ts) zero d e h k = refl
with_targets-more (p ∷ ps) (t ∷ ts) (suc i) d e h k =
    ap (λ l. record p { target = t } ∷ l) (with_targets-more ps ts i d e (omega arith) (omega arith))

pub with_targets-next : (ps : List Pair) (ts : List ℕ) (i : ℕ) (d : Pair) (e : ℕ) → i < length ps → i < length ts
    → with_targets (take (i + 1) ps) (take (i + 1) ts) ≡ with_targets (take i ps) (take i ts) ++ record {
      guard =
          (get_or ps i d).guard;
      target = get_or ts i e;
    } ∷ []
with_targets-next ps ts i d e h k = rw add-one (with_targets-more ps ts i d e h k)

with_targets-none : (ps : List Pair) (ts : List ℕ) → with_targets (take 0 ps) (take 0 ts) ≡ []
unfolding with_targets
with_targets-none ps ts = refl

-- the guard of a target, pair by pair
pub guard_none : (v : ℕ → Bool) (ps : List Pair) (ts : List ℕ) (some t : ℕ) → v some ≡ false → v some ≡ guard v (with_targets (take 0 ps) (take 0 ts)) t
guard_none v ps ts some t e = e ∙ sym (ap (λ l. guard v l t) (with_targets-none ps ts) ∙ guard-nil v t)

pub guard_step : (v : ℕ → Bool) (ps : List Pair) (ts : List ℕ) (i : ℕ) (d : Pair) (e some new t : ℕ) → i < length ps → i < length ts
    → v some ≡ guard v (with_targets (take i ps) (take i ts)) t → v new ≡ (v some || (nat_eq (get_or ts i e) t && v (get_or ps i d).guard.at))
    → v new ≡ guard v (with_targets (take (i + 1) ps) (take (i + 1) ts)) t
guard_step v ps ts i d e some new t h k before here =
    let q : Pair = record { guard = (get_or ps i d).guard; target = get_or ts i e } in
    here ∙ ap (λ b. b || (nat_eq (get_or ts i e) t && v (get_or ps i d).guard.at)) before
    ∙ sym (ap (λ l. guard v l t) (with_targets-next ps ts i d e h k) ∙ guard-push v (with_targets (take i ps) (take i ts)) q t)

pub guard_whole : (v : ℕ → Bool) (ps : List Pair) (ts : List ℕ) (i some t : ℕ) → length ts ≡ length ps → length ts ≤ i
    → v some ≡ guard v (with_targets (take i ps) (take i ts)) t → v some ≡ guard v (with_targets ps ts) t
guard_whole v ps ts i some t wide all e =
    e ∙ ap (λ l. guard v (with_targets l (take i ts)) t) (take_all i ps (omega arith)) ∙ ap (λ l. guard v (with_targets ps l) t) (take_all i ts all)

-- the set that is put together of these
pub moved_none : (ns : List Node) (ps : List Pair) (ts : List ℕ) (none : List Pair) → none ≡ [] → IsMovedSoFar ns ps ts 0 none
moved_none ns ps ts none e =
    subst (λ (l : List Pair). IsMadeSoFar ns (λ v t. guard v (with_targets ps ts) t) l none) (sym (with_targets-none ps ts))
    (made_none ns (λ v t. guard v (with_targets ps ts) t) none e)

pub moved_more : (ns : List Node) (ps : List Pair) (ts : List ℕ) (i : ℕ) (d : Pair) (e : ℕ) (q : Pair) (so_far : List Pair) → i < length ps
    → i < length ts → q.target ≡ get_or ts i e
    → IsMadeSoFar ns (λ v t. guard v (with_targets ps ts) t) (with_targets (take i ps) (take i ts) ++ q ∷ []) so_far → IsMovedSoFar ns ps ts (i + 1) so_far
moved_more ns ps ts i d e q so_far h k same s =
    subst (λ (l : List Pair). IsMadeSoFar ns (λ v t. guard v (with_targets ps ts) t) l so_far) (sym (with_targets-next ps ts i d e h k))
    (made_same_target ns (λ v t. guard v (with_targets ps ts) t) (with_targets (take i ps) (take i ts)) so_far q _ same s)

pub moved_turn : (old new : List Node) (items ps : List Pair) (ts : List ℕ) (i : ℕ) (before after : List Pair) → items ≡ ps
    → (IsMovedSoFar old items ts i before → IsMovedSoFar new items ts (i + 1) after) → IsMovedSoFar old ps ts i before → IsMovedSoFar new ps ts (i + 1) after
moved_turn old new items ps ts i before after e step =
    subst (λ (l : List Pair). IsMovedSoFar old l ts i before → IsMovedSoFar new l ts (i + 1) after) e step

pub moved_all : (ns : List Node) (ps : List Pair) (ts : List ℕ) (i : ℕ) (so_far : List Pair) → length ts ≡ length ps → length ts ≤ i
    → IsMovedSoFar ns ps ts i so_far → IsMadeSoFar ns (λ v t. guard v (with_targets ps ts) t) (with_targets ps ts) so_far
moved_all ns ps ts i so_far wide all s =
    let whole : with_targets (take i ps) (take i ts) ≡ with_targets ps ts =
    ap (λ l. with_targets l (take i ts)) (take_all i ps (omega arith)) ∙ ap (λ l. with_targets ps l) (take_all i ts all) in
    subst (λ (l : List Pair). IsMadeSoFar ns (λ v t. guard v (with_targets ps ts) t) l so_far) whole s

-- a target has no guard where it has no pair
only_there : (v : ℕ → Bool) (ps : List Pair) (t : ℕ) → (has_target ps t && guard v ps t) ≡ guard v ps t
only_there v ps t = by (has_target ps t) refl
  where
    by : (b : Bool) → has_target ps t ≡ b → (b && guard v ps t) ≡ guard v ps t
    by true e = refl
    by false e = sym (guard_missing v ps t e)

-- where the targets are mapped, so are those that hold
held-mapped : (v : ℕ → Bool) (f : ℕ → ℕ) (ps : List Pair) → held v (with_targets ps (map f (targets_of ps))) ≡ map f (held v ps)
unfolding held with_targets targets_of
held-mapped v f [] = refl
held-mapped v f (p ∷ ps) = by (v p.guard.at) (held-mapped v f ps)
  where
    by : (b : Bool) → held v (with_targets ps (map f (targets_of ps))) ≡ map f (held v ps)
        → (if b then f p.target ∷ held v (with_targets ps (map f (targets_of ps))) else held v (with_targets ps (map f (targets_of ps)))) ≡ map f
        (if b then p.target ∷ held v ps else held v ps)
    by true e = ap (λ l. f p.target ∷ l) e
    by false e = e

Points-mapped : (v : ℕ → Bool) (f : ℕ → ℕ) (ps : List Pair) (ts : List ℕ) (t : ℕ) → map f (targets_of ps) ≡ ts → Points v ps t
    → Points v (with_targets ps ts) (f t)
Points-mapped v f ps ts t e h = record { one = ap (λ l. held v (with_targets ps l)) (sym e) ∙ held-mapped v f ps ∙ ap (map f) h.one }

-- as many guards hold with other targets
length-held : (v : ℕ → Bool) (ps : List Pair) (ts : List ℕ) → length ts ≡ length ps → length (held v (with_targets ps ts)) ≡ length (held v ps)
unfolding held with_targets
length-held v [] ts e = refl
length-held v (p ∷ ps) [] e = absurd (omega (arith, e))
length-held v (p ∷ ps) (t ∷ ts) e = by (v p.guard.at) (length-held v ps ts (omega (arith, e)))
  where
    by : (b : Bool) → length (held v (with_targets ps ts)) ≡ length (held v ps)
        → length (if b then t ∷ held v (with_targets ps ts) else held v (with_targets ps ts)) ≡ length (if b then p.target ∷ held v ps else held v ps)
    by true h = ap suc h
    by false h = h

one_of : (xs : List ℕ) → length xs ≡ 1 → (u : ℕ) × (xs ≡ u ∷ [])
one_of [] e = absurd (omega (arith, e))
one_of (x ∷ []) e = (x, refl)
one_of (x ∷ y ∷ xs) e = absurd (omega (arith, e))

Points-somewhere : (v : ℕ → Bool) (ps : List Pair) (ts : List ℕ) (t : ℕ) → length ts ≡ length ps → Points v ps t → (u : ℕ) × Points v (with_targets ps ts) u
Points-somewhere v ps ts t wide h =
    let one = one_of (held v (with_targets ps ts)) (length-held v ps ts wide ∙ ap length h.one) in (one.0, record { one = one.1 })

made_points : (ns : List Node) (ps : List Pair) (ts : List ℕ) (r : List Pair) → IsMadeSoFar ns (λ v t. guard v (with_targets ps ts) t) (with_targets ps ts) r
    → (choice v : ℕ → Bool) → Runs ns choice v → (u : ℕ) → Points v (with_targets ps ts) u → Points v r u
made_points ns ps ts r s choice v run u h =
    Points-guard v r u s.differ (λ w. s.guards choice v run w ∙ only_there v (with_targets ps ts) w ∙ guard-points v (with_targets ps ts) u w h)

pub moved_points : (ns : List Node) (ps : List Pair) (ts : List ℕ) (r : List Pair)
    → IsMadeSoFar ns (λ v t. guard v (with_targets ps ts) t) (with_targets ps ts) r → IsMoved ns ps ts r
moved_points ns ps ts r s = record {
  below = s.below;
  known = s.known;
  guards = λ choice v run t. s.guards choice v run t ∙ only_there v (with_targets ps ts) t;
  points = λ choice v run f t e h. made_points ns ps ts r s choice v run (f t) (Points-mapped v f ps ts t e h);
}

pub moved_good : (old ns : List Node) (ps : List Pair) (ts : List ℕ) (r : List Pair) → Grown old ns → length ts ≡ length ps → IsGood old ps
    → IsMadeSoFar ns (λ v t. guard v (with_targets ps ts) t) (with_targets ps ts) r → IsGood ns r
moved_good old ns ps ts r g wide good s = record {
  below = s.below;
  differ = s.differ;
  points = λ choice v run.
      (let there = good.points choice v (g.runs choice v run) in
      let somewhere = Points-somewhere v ps ts there.0 wide there.1 in
      (somewhere.0, made_points ns ps ts r s choice v run somewhere.0 somewhere.1));
}

-- tests, pair by pair
tested-more : (v : ℕ → Bool) (ps : List Pair) (gs : List Gate) (i : ℕ) (d : Pair) (e : Gate) → i < length ps → i < length gs
    → tested v (take (suc i) ps) (take (suc i) gs) ≡ (tested v (take i ps) (take i gs) || (v (get_or ps i d).guard.at && v (get_or gs i e).at))
unfolding tested
tested-more v [] gs i d e h k = absurd (omega arith)
tested-more v (p ∷ ps) [] i d e h k = absurd (omega arith)
tested-more v (p ∷ ps) (g ∷ gs) zero d e h k = or_false (v p.guard.at && v g.at)
tested-more v (p ∷ ps) (g ∷ gs) (suc i) d e h k =
    let here = v p.guard.at && v g.at in
    ap (λ b. here || b) (tested-more v ps gs i d e (omega arith) (omega arith))
    ∙ sym (or_assoc here (tested v (take i ps) (take i gs)) (v (get_or ps i d).guard.at && v (get_or gs i e).at))

pub tested_none : (v : ℕ → Bool) (ps : List Pair) (gs : List Gate) (some : ℕ) → v some ≡ false → v some ≡ tested v (take 0 ps) (take 0 gs)
unfolding tested
tested_none v ps gs some e = e

pub tested_step : (v : ℕ → Bool) (ps : List Pair) (gs : List Gate) (i : ℕ) (d : Pair) (e : Gate) (some new : ℕ) → i < length ps → i < length gs
    → v some ≡ tested v (take i ps) (take i gs) → v new ≡ (v some || (v (get_or ps i d).guard.at && v (get_or gs i e).at))
    → v new ≡ tested v (take (i + 1) ps) (take (i + 1) gs)
tested_step v ps gs i d e some new h k before here =
    here ∙ ap (λ b. b || (v (get_or ps i d).guard.at && v (get_or gs i e).at)) before ∙ sym (rw add-one (tested-more v ps gs i d e h k))

tested-held : (v : ℕ → Bool) (ps : List Pair) (gs : List Gate) (f : ℕ → Bool) → Tests v ps gs f → tested v ps gs ≡ list_any f (held v ps)
unfolding tested held
tested-held v [] [] f h = refl
tested-held v [] (g ∷ gs) f h = absurd h
tested-held v (p ∷ ps) [] f h = absurd h
tested-held v (p ∷ ps) (g ∷ gs) f h = by (v p.guard.at) (tested-held v ps gs f h.1)
  where
    by : (b : Bool) → tested v ps gs ≡ list_any f (held v ps) → ((b && v g.at) || tested v ps gs) ≡ list_any f (if b then p.target ∷ held v ps else held v ps)
    by true e = ap (λ x. x || tested v ps gs) h.0 ∙ ap (λ x. f p.target || x) e
    by false e = e

pub tested_whole : (ns : List Node) (ps : List Pair) (gs : List Gate) (i some : ℕ) → length gs ≡ length ps → length gs ≤ i → some < length ns
    → Always ns (λ choice v. v some ≡ tested v (take i ps) (take i gs)) → IsWhere ns ps gs some
tested_whole ns ps gs i some wide all below s =
    let whole : (v : ℕ → Bool) → tested v (take i ps) (take i gs) ≡ tested v ps gs =
    λ v. ap (λ l. tested v l (take i gs)) (take_all i ps (omega arith)) ∙ ap (λ l. tested v ps l) (take_all i gs all) in
    record {
      below = below;
      value = λ choice v r. s.holds choice v r ∙ whole v;
      points = λ choice v r f t tests h.
          s.holds choice v r ∙ whole v ∙ tested-held v ps gs f tests ∙ ap (list_any f) h.one ∙ or_false (f t);
    }
