-- Guards, targets and the greatest guard of lists of pairs that are put together or cut.
use Rattle.std.proofs.Common.{◌≡◌, ℕ, zero, suc, ◌+◌, ◌<◌, ◌≤◌, max, Bool, true, false, not, ◌&&◌, ◌||◌, nat_eq, List, [], ◌∷◌, ◌++◌, length, take}
use Rattle.std.proofs.Common.{get_or, if◌then◌else◌, refl, sym, ◌∙◌, ap, arith}
use Rattle.std.proofs.lemmas.Bool.{ne_eqb}
use Rattle.std.proofs.lemmas.List.{take_more, take_all}
use Rattle.bit_net.specs.declared.nodes.Node.{Node}
use Rattle.bit_net.specs.Runs.{Gives}
use Rattle.gl_sets.specs.declared.pairs.Pair.{Pair}
use Rattle.gl_sets.specs.Guards.{held, guard, has_target, targets_differ, guards_top}
use Rattle.gl_sets.proofs.BoolLemmas.{both, not_true, or_false, neither, or_assoc, same, itself}

pub has_target-append : (xs ys : List Pair) (t : ℕ) → has_target (xs ++ ys) t ≡ (has_target xs t || has_target ys t)
unfolding has_target
has_target-append [] ys t = refl
has_target-append (x ∷ xs) ys t = ap (λ b. nat_eq x.target t || b) (has_target-append xs ys t)
    ∙ sym (or_assoc (nat_eq x.target t) (has_target xs t) (has_target ys t))

pub has_target-push : (xs : List Pair) (p : Pair) (t : ℕ) → has_target (xs ++ p ∷ []) t ≡ (has_target xs t || nat_eq p.target t)
unfolding has_target
has_target-push xs p t = has_target-append xs (p ∷ []) t ∙ ap (λ b. has_target xs t || b) (or_false (nat_eq p.target t))

pub has_target-nil : (t : ℕ) → has_target [] t ≡ false
unfolding has_target
has_target-nil t = refl

-- one more pair from the front
pub has_target-take : (ps : List Pair) (i : ℕ) (d : Pair) (t : ℕ) → i < length ps
    → has_target (take (i + 1) ps) t ≡ (has_target (take i ps) t || nat_eq (get_or ps i d).target t)
has_target-take ps i d t low = ap (λ l. has_target l t) (take_more ps i d low) ∙ has_target-push (take i ps) (get_or ps i d) t

pub guard-append : (v : ℕ → Bool) (xs ys : List Pair) (t : ℕ) → guard v (xs ++ ys) t ≡ (guard v xs t || guard v ys t)
unfolding guard
guard-append v [] ys t = refl
guard-append v (x ∷ xs) ys t = ap (λ b. (nat_eq x.target t && v x.guard.at) || b) (guard-append v xs ys t)
    ∙ sym (or_assoc (nat_eq x.target t && v x.guard.at) (guard v xs t) (guard v ys t))

pub guard-push : (v : ℕ → Bool) (xs : List Pair) (p : Pair) (t : ℕ) → guard v (xs ++ p ∷ []) t ≡ (guard v xs t || (nat_eq p.target t && v p.guard.at))
unfolding guard
guard-push v xs p t = guard-append v xs (p ∷ []) t ∙ ap (λ b. guard v xs t || b) (or_false (nat_eq p.target t && v p.guard.at))

pub guard-nil : (v : ℕ → Bool) (t : ℕ) → guard v [] t ≡ false
unfolding guard
guard-nil v t = refl

-- no pair, no guard
pub guard_missing : (v : ℕ → Bool) (ps : List Pair) (t : ℕ) → has_target ps t ≡ false → guard v ps t ≡ false
unfolding guard has_target
guard_missing v [] t h = refl
guard_missing v (p ∷ ps) t h =
    let n = neither (nat_eq p.target t) (has_target ps t) h in
    rw (n.0, guard_missing v ps t n.1) refl

-- the pair at a place has its target
pub has_target_at : (ps : List Pair) (i : ℕ) (d : Pair) → i < length ps → has_target ps (get_or ps i d).target ≡ true
unfolding has_target
has_target_at [] i d h = absurd (omega arith)
has_target_at (p ∷ ps) zero d h = rw (itself p.target) refl
has_target_at (p ∷ ps) (suc i) d h =
    let low : i < length ps = omega arith in
    by (nat_eq p.target (get_or ps i d).target) (has_target_at ps i d low)
  where
    by : (b : Bool) → has_target ps (get_or ps i d).target ≡ true → (b || has_target ps (get_or ps i d).target) ≡ true
    by true h = refl
    by false h = h

-- where the targets differ, the guard of a pair's target is the pair's own
pub guard_at : (v : ℕ → Bool) (ps : List Pair) (i : ℕ) (d : Pair) → i < length ps → targets_differ ps ≡ true
    → guard v ps (get_or ps i d).target ≡ v (get_or ps i d).guard.at
unfolding guard targets_differ
guard_at v [] i d h e = absurd (omega arith)
guard_at v (p ∷ ps) zero d h e =
    let parts = both (not (has_target ps p.target)) (targets_differ ps) e in
    rw (itself p.target, guard_missing v ps p.target (not_true (has_target ps p.target) parts.0)) (or_false (v p.guard.at))
guard_at v (p ∷ ps) (suc i) d h e =
    let parts = both (not (has_target ps p.target)) (targets_differ ps) e in
    let low : i < length ps = omega arith in
    by (nat_eq p.target (get_or ps i d).target) refl (not_true (has_target ps p.target) parts.0) (has_target_at ps i d low) (guard_at v ps i d low parts.1)
  where
    by : (b : Bool) → nat_eq p.target (get_or ps i d).target ≡ b → has_target ps p.target ≡ false → has_target ps (get_or ps i d).target ≡ true
        → guard v ps (get_or ps i d).target ≡ v (get_or ps i d).guard.at
        → ((b && v p.guard.at) || guard v ps (get_or ps i d).target) ≡ v (get_or ps i d).guard.at
    by true e absent there rest = let equal = ap (has_target ps) (same p.target (get_or ps i d).target e) in absurd (cc)
    by false e absent there rest = rest

pub guards_top-append : (xs ys : List Pair) → guards_top (xs ++ ys) ≡ max (guards_top xs) (guards_top ys)
unfolding guards_top
guards_top-append [] ys = omega arith
guards_top-append (x ∷ xs) ys = omega (arith, guards_top-append xs ys)

pub guards_top-one : (p : Pair) → guards_top (p ∷ []) ≡ p.guard.at + 1
unfolding guards_top
guards_top-one p = omega arith

pub guards_top-nil : guards_top [] ≡ 0
unfolding guards_top
guards_top-nil = refl

pub guards_top-push : (xs : List Pair) (p : Pair) → guards_top (xs ++ p ∷ []) ≡ max (guards_top xs) (p.guard.at + 1)
guards_top-push xs p = omega (arith, guards_top-append xs (p ∷ []), guards_top-one p)

-- each guard is below the top
pub guard_below : (ps : List Pair) (i : ℕ) (d : Pair) → i < length ps → (get_or ps i d).guard.at < guards_top ps
unfolding guards_top
guard_below [] i d h = absurd (omega arith)
guard_below (p ∷ ps) zero d h = omega arith
guard_below (p ∷ ps) (suc i) d h = let low : i < length ps = omega arith in omega (arith, guard_below ps i d low)

-- the targets whose guards hold, pair by pair
pub held-nil : (v : ℕ → Bool) → held v [] ≡ []
unfolding held
held-nil v = refl

pub held-push : (v : ℕ → Bool) (ps : List Pair) (p : Pair) → held v (ps ++ p ∷ []) ≡ (if v p.guard.at then held v ps ++ p.target ∷ [] else held v ps)
unfolding held
held-push v [] p = refl
held-push v (q ∷ ps) p = by (v q.guard.at) (v p.guard.at) (held-push v ps p)
  where
    by : (b c : Bool) → held v (ps ++ p ∷ []) ≡ (if c then held v ps ++ p.target ∷ [] else held v ps)
        → (if b then q.target ∷ held v (ps ++ p ∷ []) else held v (ps ++ p ∷ []))
        ≡ (if c then (if b then q.target ∷ held v ps else held v ps) ++ p.target ∷ [] else (if b then q.target ∷ held v ps else held v ps))
    by true true h = ap (λ l. q.target ∷ l) h
    by true false h = ap (λ l. q.target ∷ l) h
    by false true h = h
    by false false h = h

pub held-take : (v : ℕ → Bool) (ps : List Pair) (i : ℕ) (d : Pair) → i < length ps
    → held v (take (i + 1) ps) ≡ (if v (get_or ps i d).guard.at then held v (take i ps) ++ (get_or ps i d).target ∷ [] else held v (take i ps))
held-take v ps i d low = ap (held v) (take_more ps i d low) ∙ held-push v (take i ps) (get_or ps i d)

-- the guard of the pair that is found at a place
pub points_found : (ns : List Node) (items ps : List Pair) (i : ℕ) (d : Pair) (t : ℕ) → items ≡ ps → targets_differ ps ≡ true → guards_top ps ≤ length ns
    → i < length items → (get_or items i d).target ≡ t → Gives ns (get_or items i d).guard.at (λ choice v. guard v ps t)
points_found ns items ps i d t e differ below low here = record {
  below = omega (arith, guard_below items i d low, ap guards_top e, below);
  value = λ choice v r.
      sym (ap (guard v ps) (sym here) ∙ ap (λ l. guard v l (get_or items i d).target) (sym e) ∙ guard_at v items i d low (ap targets_differ e ∙ differ));
}

-- the first pairs and one more, which has another target
pub still_missing : (items ps : List Pair) (i : ℕ) (d : Pair) (t : ℕ) → items ≡ ps → i < length items → has_target (take i ps) t ≡ false
    → ((get_or items i d).target ≡ t → ⊥) → has_target (take (i + 1) ps) t ≡ false
still_missing items ps i d t e low before other =
    ap (λ l. has_target (take (i + 1) l) t) (sym e) ∙ has_target-take items i d t low
    ∙ rw (ap (λ l. has_target (take i l) t) e ∙ before) (ne_eqb (get_or items i d).target t other)

-- no pair has the target
pub points_missing : (ns : List Node) (items ps : List Pair) (i g t : ℕ) → items ≡ ps → length items ≤ i → has_target (take i ps) t ≡ false
    → Gives ns g (λ choice v. false) → Gives ns g (λ choice v. guard v ps t)
points_missing ns items ps i g t e all absent s = record {
  below = s.below;
  value = λ choice v r.
      (let whole : take i ps ≡ ps = take_all i ps (omega (arith, ap length e)) in
      s.value choice v r ∙ sym (guard_missing v ps t (ap (λ l. has_target l t) (sym whole) ∙ absent)));
}

pub targets_differ-nil : targets_differ [] ≡ true
unfolding targets_differ
targets_differ-nil = refl

pub targets_differ-one : (p : Pair) → targets_differ (p ∷ []) ≡ true
unfolding targets_differ has_target
targets_differ-one p = refl

-- a new target behind others
pub targets_differ-push : (ps : List Pair) (p : Pair) → targets_differ ps ≡ true → has_target ps p.target ≡ false → targets_differ (ps ++ p ∷ []) ≡ true
unfolding targets_differ has_target
targets_differ-push [] p h e = refl
targets_differ-push (q ∷ ps) p h e =
    let parts = both (not (has_target ps q.target)) (targets_differ ps) h in
    let apart = neither (nat_eq q.target p.target) (has_target ps p.target) e in
    let others : has_target (ps ++ p ∷ []) q.target ≡ false =
    has_target-push ps p q.target ∙ rw (not_true (has_target ps q.target) parts.0) (other p.target q.target apart.0) in
    rw (others, targets_differ-push ps p parts.1 apart.1) refl
  where
    other : (a b : ℕ) → nat_eq b a ≡ false → nat_eq a b ≡ false
    other a b h = by (nat_eq a b) refl
      where
        by : (c : Bool) → nat_eq a b ≡ c → nat_eq a b ≡ false
        by false e = e
        by true e = let turned = ap (λ k. nat_eq k a) (same a b e) in let again = itself a in absurd (cc)

pub ruleset guard_laws = (has_target-nil, guard-nil, guards_top-nil, guards_top-push, guards_top-one, targets_differ-nil, targets_differ-one)
