-- A set points to a target exactly where that target alone has its guard.
use Rattle.std.proofs.Common.{◌≡◌, ℕ, Bool, true, false, not, ◌&&◌, ◌||◌, nat_eq, List, [], ◌∷◌, ◌++◌, if◌then◌else◌, refl, sym, ◌∙◌, ap, subst, arith}
use Rattle.bit_net.specs.declared.nodes.Node.{Node}
use Rattle.bit_net.specs.Runs.{Gives, Always}
use Rattle.gl_sets.specs.declared.pairs.Pair.{Pair}
use Rattle.gl_sets.specs.Guards.{Points, held, guard, has_target, targets_differ, guards_top}
use Rattle.gl_sets.specs.Sets.{IsGood}
use Rattle.gl_sets.proofs.BoolLemmas.{both, not_true, or_false, neither, same, itself}
use Rattle.gl_sets.proofs.GuardLemmas.{guard_missing, guards_top-one, targets_differ-one}

is_among : List ℕ → ℕ → Bool
is_among [] u = false
is_among (t ∷ ts) u = nat_eq t u || is_among ts u

-- the guard of a target holds where the target is among those that hold
guard-held : (v : ℕ → Bool) (ps : List Pair) (u : ℕ) → guard v ps u ≡ is_among (held v ps) u
unfolding guard held is_among
guard-held v [] u = refl
guard-held v (p ∷ ps) u = by (v p.guard.at) (nat_eq p.target u) (guard-held v ps u)
  where
    by : (b c : Bool) → guard v ps u ≡ is_among (held v ps) u → ((nat_eq p.target u && b) || guard v ps u) ≡ is_among (if b then p.target ∷ held v ps else held v ps) u
    by true c h = at (nat_eq p.target u)
      where
        at : (d : Bool) → ((d && true) || guard v ps u) ≡ (d || is_among (held v ps) u)
        at true = refl
        at false = h
    by false c h = at (nat_eq p.target u)
      where
        at : (d : Bool) → ((d && false) || guard v ps u) ≡ is_among (held v ps) u
        at true = h
        at false = h

pub guard-points : (v : ℕ → Bool) (ps : List Pair) (t u : ℕ) → Points v ps t → guard v ps u ≡ nat_eq t u
unfolding is_among
guard-points v ps t u h = guard-held v ps u ∙ ap (λ l. is_among l u) h.one ∙ or_false (nat_eq t u)

held_none : (v : ℕ → Bool) (ps : List Pair) → ((u : ℕ) → guard v ps u ≡ false) → held v ps ≡ []
unfolding guard held
held_none v [] h = refl
held_none v (p ∷ ps) h = by (v p.guard.at) (h p.target) (held_none v ps (λ u. (neither (nat_eq p.target u && v p.guard.at) (guard v ps u) (h u)).1))
  where
    by : (b : Bool) → ((nat_eq p.target p.target && b) || guard v ps p.target) ≡ false → held v ps ≡ [] → (if b then p.target ∷ held v ps else held v ps) ≡ []
    by true here rest = let both_ways : true ≡ false = rw (itself p.target) at here in absurd (cc)
    by false here rest = rest

held_one : (v : ℕ → Bool) (ps : List Pair) (t : ℕ) → targets_differ ps ≡ true → ((u : ℕ) → guard v ps u ≡ nat_eq t u) → held v ps ≡ t ∷ []
unfolding guard held targets_differ
held_one v [] t e h = let here = h t in let equal = itself t in absurd (cc)
held_one v (p ∷ ps) t e h =
    let parts = both (not (has_target ps p.target)) (targets_differ ps) e in
    by (v p.guard.at) h (not_true (has_target ps p.target) parts.0) (held_one v ps t parts.1)
  where
    by : (b : Bool) → ((u : ℕ) → ((nat_eq p.target u && b) || guard v ps u) ≡ nat_eq t u) → has_target ps p.target ≡ false
        → (((u : ℕ) → guard v ps u ≡ nat_eq t u) → held v ps ≡ t ∷ [])
        → (if b then p.target ∷ held v ps else held v ps) ≡ t ∷ []
    by true h absent rest =
        let here : nat_eq t p.target ≡ true = sym (h p.target) ∙ rw (itself p.target) refl in
        let equal : t ≡ p.target = same t p.target here in
        let none : held v ps ≡ [] = held_none v ps (λ u. others u (nat_eq p.target u) refl (h u) (ap (λ k. nat_eq k u) equal) absent) in
        rw (none, equal) refl
      where
        others : (u : ℕ) (c : Bool) → nat_eq p.target u ≡ c → ((nat_eq p.target u && true) || guard v ps u) ≡ nat_eq t u
            → nat_eq t u ≡ nat_eq p.target u → has_target ps p.target ≡ false → guard v ps u ≡ false
        others u true e h k absent = ap (guard v ps) (sym (same p.target u e)) ∙ guard_missing v ps p.target absent
        others u false e h k absent = let all : ((false && true) || guard v ps u) ≡ false = rw e at (h ∙ k ∙ e) in all
    by false h absent rest = rest (λ u. at u (nat_eq p.target u) (h u))
      where
        at : (u : ℕ) (c : Bool) → ((c && false) || guard v ps u) ≡ nat_eq t u → guard v ps u ≡ nat_eq t u
        at u true h = h
        at u false h = h

pub Points-guard : (v : ℕ → Bool) (ps : List Pair) (t : ℕ) → targets_differ ps ≡ true → ((u : ℕ) → guard v ps u ≡ nat_eq t u) → Points v ps t
Points-guard v ps t e h = record { one = held_one v ps t e h }

pub Points-one : (v : ℕ → Bool) (ps : List Pair) (t u : ℕ) → Points v ps t → Points v ps u → t ≡ u
Points-one v ps t u h k = let e : t ∷ [] ≡ u ∷ [] = sym h.one ∙ k.one in cc

-- a pair whose guard holds, alone
pub Points-single : (v : ℕ → Bool) (p : Pair) → v p.guard.at ≡ true → Points v (p ∷ []) p.target
unfolding held
Points-single v p h = record { one = rw h refl }

-- a set that is made of one pair, whose guard always holds
pub single_differs : (none ps : List Pair) (p : Pair) → none ≡ [] → ps ≡ none ++ p ∷ [] → targets_differ ps ≡ true
single_differs none ps p e f = ap targets_differ (f ∙ ap (λ l. l ++ p ∷ []) e) ∙ targets_differ-one p

pub single_points : (ns : List Node) (none ps : List Pair) (p : Pair) → none ≡ [] → ps ≡ none ++ p ∷ [] → Gives ns p.guard.at (λ choice v. true)
    → Always ns (λ choice v. Points v ps p.target)
single_points ns none ps p e f s =
    let only : ps ≡ p ∷ [] = f ∙ ap (λ l. l ++ p ∷ []) e in
    record { holds = λ choice v r. subst (λ (l : List Pair). Points v l p.target) (sym only) (Points-single v p (s.value choice v r)) }

pub single_good : (ns : List Node) (none ps : List Pair) (p : Pair) → none ≡ [] → ps ≡ none ++ p ∷ [] → Gives ns p.guard.at (λ choice v. true) → IsGood ns ps
single_good ns none ps p e f s =
    let only : ps ≡ p ∷ [] = f ∙ ap (λ l. l ++ p ∷ []) e in
    record {
      below = omega (arith, ap guards_top only, guards_top-one p, s.below);
      differ = single_differs none ps p e f;
      points = λ choice v r. (p.target, (single_points ns none ps p e f s).holds choice v r);
    }
