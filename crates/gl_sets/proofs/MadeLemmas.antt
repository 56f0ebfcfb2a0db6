-- Sets that are put together pair by pair: each target once, under the guard that it is to have.
use Rattle.std.proofs.Common.{◌≡◌, ℕ, ◌+◌, ◌<◌, ◌≤◌, Bool, true, false, ◌&&◌, ◌||◌, nat_eq, List, [], ◌∷◌, ◌++◌}
use Rattle.std.proofs.Common.{length, take, get_or, append_assoc, refl, sym, ◌∙◌, ap, subst, arith}
use Rattle.std.proofs.lemmas.List.{take_more, take_all}
use Rattle.bit_net.specs.declared.nodes.Gate.{Gate}
use Rattle.bit_net.specs.declared.nodes.Node.{Node}
use Rattle.bit_net.specs.Runs.{Runs, Grown}
use Rattle.gl_sets.specs.declared.pairs.Pair.{Pair}
use Rattle.gl_sets.specs.Guards.{guard, has_target, targets_differ, guards_top}
use Rattle.gl_sets.specs.Sets.{IsMadeSoFar}
use Rattle.gl_sets.proofs.BoolLemmas.{or_false, same}
use Rattle.gl_sets.proofs.GuardLemmas.{has_target-push, has_target-nil, guard-nil, guard-push}
use Rattle.gl_sets.proofs.GuardLemmas.{guards_top-nil, guards_top-push, targets_differ-nil, targets_differ-push}

-- nothing is made yet
pub made_none : (ns : List Node) (of : (ℕ → Bool) → ℕ → Bool) (none : List Pair) → none ≡ [] → IsMadeSoFar ns of [] none
made_none ns of none e = record {
  below = omega (arith, ap guards_top e, guards_top-nil);
  differ = ap targets_differ e ∙ targets_differ-nil;
  known = λ t h. (let no = ap (λ l. has_target l t) e ∙ has_target-nil t in absurd (cc));
  guards = λ choice v r t. ap (λ l. guard v l t) e ∙ guard-nil v t ∙ rw (has_target-nil t) refl;
}

-- the seen targets and one more, one of which is u
seen_more : (seen : List Pair) (p : Pair) (u : ℕ) → has_target seen u ≡ true → has_target (seen ++ p ∷ []) u ≡ true
seen_more seen p u h = has_target-push seen p u ∙ rw h refl

-- a target that is there already
pub made_there : (old new : List Node) (of : (ℕ → Bool) → ℕ → Bool) (seen ps ps' : List Pair) (p : Pair) → ps' ≡ ps → Grown old new
    → has_target ps p.target ≡ true
    → IsMadeSoFar old of seen ps → IsMadeSoFar new of (seen ++ p ∷ []) ps'
made_there old new of seen ps ps' p e g there s = record {
  below = omega (arith, ap guards_top e, s.below, g.longer);
  differ = ap targets_differ e ∙ s.differ;
  known = λ t h. seen_more seen p t (s.known t (sym (ap (λ l. has_target l t) e) ∙ h));
  guards = λ choice v r t. ap (λ l. guard v l t) e ∙ s.guards choice v (g.runs choice v r) t
      ∙ ap (λ k. k && of v t) (sym (has_target-push seen p t ∙ no_new t (nat_eq p.target t) refl));
}
  where
    no_new : (t : ℕ) (k : Bool) → nat_eq p.target t ≡ k → (has_target seen t || nat_eq p.target t) ≡ has_target seen t
    no_new t false e = ap (λ k. has_target seen t || k) e ∙ or_false (has_target seen t)
    no_new t true e = let yes : has_target seen t ≡ true = s.known t (ap (has_target ps) (sym (same p.target t e)) ∙ there) in rw yes refl

-- a target whose guard never holds
pub made_never : (old new : List Node) (of : (ℕ → Bool) → ℕ → Bool) (seen ps ps' : List Pair) (p : Pair) → ps' ≡ ps → Grown old new
    → ((choice v : ℕ → Bool) → Runs new choice v → of v p.target ≡ false)
    → IsMadeSoFar old of seen ps → IsMadeSoFar new of (seen ++ p ∷ []) ps'
made_never old new of seen ps ps' p e g never s = record {
  below = omega (arith, ap guards_top e, s.below, g.longer);
  differ = ap targets_differ e ∙ s.differ;
  known = λ t h. seen_more seen p t (s.known t (sym (ap (λ l. has_target l t) e) ∙ h));
  guards = λ choice v r t. ap (λ l. guard v l t) e ∙ s.guards choice v (g.runs choice v r) t
      ∙ same_there v t (nat_eq p.target t) refl (never choice v r) ∙ ap (λ k. k && of v t) (sym (has_target-push seen p t));
}
  where
    off : (x : Bool) → (x && false) ≡ false
    off true = refl
    off false = refl

    same_there : (v : ℕ → Bool) (t : ℕ) (k : Bool) → nat_eq p.target t ≡ k → of v p.target ≡ false
        → (has_target seen t && of v t) ≡ ((has_target seen t || nat_eq p.target t) && of v t)
    same_there v t false e n = ap (λ k. k && of v t) (sym (ap (λ k. has_target seen t || k) e ∙ or_false (has_target seen t)))
    same_there v t true e n =
        let zero_here : of v t ≡ false = ap (of v) (sym (same p.target t e)) ∙ n in
        ap (λ x. has_target seen t && x) zero_here ∙ off (has_target seen t)
        ∙ sym (ap (λ x. (has_target seen t || nat_eq p.target t) && x) zero_here ∙ off (has_target seen t || nat_eq p.target t))

-- a target that is new
pub made_new : (old new : List Node) (of : (ℕ → Bool) → ℕ → Bool) (seen ps ps' : List Pair) (p : Pair) (g : Gate)
    → ps' ≡ ps ++ record { guard = g; target = p.target } ∷ [] → Grown old new → has_target ps p.target ≡ false
    → g.at < length new → ((choice v : ℕ → Bool) → Runs new choice v → v g.at ≡ of v p.target)
    → IsMadeSoFar old of seen ps → IsMadeSoFar new of (seen ++ p ∷ []) ps'
made_new old new of seen ps ps' p g e grown fresh low value s =
    let q : Pair = record { guard = g; target = p.target } in record {
      below = omega (arith, ap guards_top e, guards_top-push ps q, s.below, grown.longer);
      differ = ap targets_differ e ∙ targets_differ-push ps q s.differ fresh;
      known = λ t h. has_target-push seen p t ∙ known_by t (has_target ps t) (nat_eq p.target t) refl (sym (has_target-push ps q t)
          ∙ sym (ap (λ l. has_target l t) e) ∙ h);
      guards = λ choice v r t.
          ap (λ l. guard v l t) e ∙ guard-push v ps q t ∙ ap (λ k. k || (nat_eq p.target t && v g.at)) (s.guards choice v (grown.runs choice v r) t)
          ∙ added v t (nat_eq p.target t) refl (value choice v r) ∙ ap (λ k. k && of v t) (sym (has_target-push seen p t));
    }
  where
    known_by : (t : ℕ) (x y : Bool) → has_target ps t ≡ x → (x || y) ≡ true → (has_target seen t || y) ≡ true
    known_by t true y e h = rw (s.known t e) refl
    known_by t false true e h = by (has_target seen t)
      where
        by : (z : Bool) → (z || true) ≡ true
        by true = refl
        by false = refl
    known_by t false false e h = absurd (cc)

    by_bools : (x n m : Bool) → ((x && n) || n) ≡ ((x || true) && n)
    by_bools true true m = refl
    by_bools true false m = refl
    by_bools false true m = refl
    by_bools false false m = refl

    added : (v : ℕ → Bool) (t : ℕ) (k : Bool) → nat_eq p.target t ≡ k → v g.at ≡ of v p.target
        → ((has_target seen t && of v t) || (nat_eq p.target t && v g.at)) ≡ ((has_target seen t || nat_eq p.target t) && of v t)
    added v t false e n =
        rw (e, or_false (has_target seen t)) (or_false (has_target seen t && of v t))
    added v t true e n =
        let here : v g.at ≡ of v t = n ∙ ap (of v) (same p.target t e) in
        rw (e, here) (by_bools (has_target seen t) (of v t) true)

-- the seen pairs of a list are those in front of a place and the one there
pub made_more : (ns : List Node) (of : (ℕ → Bool) → ℕ → Bool) (front items xs ps : List Pair) (i : ℕ) (d : Pair) → items ≡ xs → i < length items
    → IsMadeSoFar ns of ((front ++ take i xs) ++ get_or items i d ∷ []) ps → IsMadeSoFar ns of (front ++ take (i + 1) xs) ps
made_more ns of front items xs ps i d same_items low s =
    let e : (front ++ take i items) ++ get_or items i d ∷ [] ≡ front ++ take (i + 1) items = append_assoc front (take i items)
    (get_or items i d ∷ []) ∙ ap (λ l. front ++ l) (sym (take_more items i d low)) in
    let first = subst (λ (l : List Pair). IsMadeSoFar ns of ((front ++ take i l) ++ get_or items i d ∷ []) ps) (sym same_items) s in
    let next = subst (λ (l : List Pair). IsMadeSoFar ns of l ps) e first in
    subst (λ (l : List Pair). IsMadeSoFar ns of (front ++ take (i + 1) l) ps) same_items next

-- past the end of a list all its pairs are seen
pub made_all : (ns : List Node) (of : (ℕ → Bool) → ℕ → Bool) (front items xs ps : List Pair) (i : ℕ) → items ≡ xs → length items ≤ i
    → IsMadeSoFar ns of (front ++ take i xs) ps → IsMadeSoFar ns of (front ++ xs) ps
made_all ns of front items xs ps i same_items all s =
    let whole : take i xs ≡ xs = take_all i xs (omega (arith, ap length same_items)) in
    subst (λ (l : List Pair). IsMadeSoFar ns of (front ++ l) ps) whole s

-- the net grows
pub made_grown : (old new : List Node) (of : (ℕ → Bool) → ℕ → Bool) (seen ps : List Pair) → Grown old new → IsMadeSoFar old of seen ps
    → IsMadeSoFar new of seen ps
made_grown old new of seen ps g s = record {
  below = omega (arith, s.below, g.longer);
  differ = s.differ;
  known = s.known;
  guards = λ choice v r. s.guards choice v (g.runs choice v r);
}

-- another pair with the same target is seen
pub made_same_target : (ns : List Node) (of : (ℕ → Bool) → ℕ → Bool) (seen ps : List Pair) (p q : Pair) → p.target ≡ q.target
    → IsMadeSoFar ns of (seen ++ p ∷ []) ps → IsMadeSoFar ns of (seen ++ q ∷ []) ps
made_same_target ns of seen ps p q e s = record {
  below = s.below;
  differ = s.differ;
  known = λ t h. sym (same_seen t) ∙ s.known t h;
  guards = λ choice v r t. s.guards choice v r t ∙ ap (λ k. k && of v t) (same_seen t);
}
  where
    same_seen : (t : ℕ) → has_target (seen ++ p ∷ []) t ≡ has_target (seen ++ q ∷ []) t
    same_seen t = has_target-push seen p t ∙ ap (λ k. has_target seen t || nat_eq k t) e ∙ sym (has_target-push seen q t)
