-- What follows along the trail.

use Rattle.std.proofs.Common.{◌≡◌, ℕ, zero, suc, ◌+◌, ◌<◌, ◌≤◌, inl, inr, Bool, true, false, List, [], ◌∷◌, ◌++◌, length, length-append, take, drop, get_or, slice_get, Option, None, Some, IfNone, refl, sym, subst, ap, ◌∙◌, arith}
use Rattle.std.proofs.lemmas.List.Folds.{list_any_more}
use Rattle.std.proofs.Math.Seq.{take-length, get_or-append_seam}
use Rattle.std.proofs.Math.ListN.{get_or-append}
use Rattle.sat_base.specs.declared.literal.Lit.{Lit}
use Rattle.sat_base.specs.Logic.{lit_true, some_true, negation, at}
use Rattle.sat_trail.specs.declared.trail.Step.{Step}
use Rattle.sat_trail.specs.declared.trail.Put.{Put}
use Rattle.sat_trail.specs.declared.trail.Put.TheVariants.{Done, Taken, Absent}
use Rattle.sat_trail.specs.declared.propagate.Look.{Look}
use Rattle.sat_trail.specs.declared.propagate.Look.TheVariants.{Keep, Move, Forced, Conflict, Gone}
use Rattle.sat_clauses.specs.Held.{Entails}
use Rattle.sat_trail.specs.Steps.{TrailState, AllTrue, AllImplied, Follows, Implies, Tells, IsPut}
use Rattle.sat_trail.specs.Weight.{Extends, weight, trail_weight}
use Rattle.sat_trail.specs.Looks.{OthersFalse, IsClauseLook, IsLook, look_from}
use Rattle.sat_trail.specs.Decided.{IsDecided}
use Rattle.sat_trail.proofs.WeightLemmas.{weight-append, weight-push}
use Rattle.sat_clauses.proofs.TruthLemmas.{true_or_false, not_both, neither, true_unless, same_or_not, negation_true}
use Rattle.sat_trail.proofs.PlaceLemmas.{split_at}

pub all_push : (f : ℕ → Bool) (steps : List Step) (s : Step) → AllTrue f steps → lit_true f s.lit ≡ true → AllTrue f (steps ++ s ∷ [])
all_push f [] s all h = (h, tt)
all_push f (x ∷ xs) s all h = (all.0, all_push f xs s all.1 h)

pub follows_push : (f : ℕ → Bool) (steps : List Step) (s : Step) → Follows f steps → (s.implied ≡ true → AllTrue f steps → lit_true f s.lit ≡ true)
    → Follows f (steps ++ s ∷ [])
follows_push f [] s h p = (λ i. p i tt, λ _. tt)
follows_push f (x ∷ xs) s h p = (h.0, λ sure. follows_push f xs s (h.1 sure) (λ i all. p i (sure, all)))

pub follows_first : (f : ℕ → Bool) (k : ℕ) (steps : List Step) → Follows f steps → Follows f (take k steps)
follows_first f zero steps h = tt
follows_first f (suc k) [] h = tt
follows_first f (suc k) (x ∷ xs) h = (h.0, λ sure. follows_first f k xs (h.1 sure))

-- where all steps behind some true ones are implied, all are true
pub follows_all : (f : ℕ → Bool) (xs ys : List Step) → Follows f (xs ++ ys) → AllTrue f xs → AllImplied ys → AllTrue f (xs ++ ys)
follows_all f [] [] h all implied = tt
follows_all f [] (y ∷ ys) h all implied = let sure = h.0 implied.0 in (sure, follows_all f [] ys (h.1 sure) tt implied.1)
follows_all f (x ∷ xs) ys h all implied = (all.0, follows_all f xs ys (h.1 all.0) all.1 implied)

pub follows_true : (f : ℕ → Bool) (steps : List Step) → AllTrue f steps → Follows f steps
follows_true f [] all = tt
follows_true f (x ∷ xs) all = (λ _. all.0, λ _. follows_true f xs all.1)

all_through : (f : ℕ → Bool) (xs : List Step) (d : Step) (ys : List Step) → Follows f (xs ++ d ∷ ys) → AllTrue f xs → lit_true f d.lit ≡ true → AllImplied ys
    → AllTrue f (xs ++ d ∷ ys)
all_through f [] d ys h all sure implied = (sure, follows_all f [] ys (h.1 sure) tt implied)
all_through f (x ∷ xs) d ys h all sure implied = (all.0, all_through f xs d ys (h.1 all.0) all.1 sure implied)

-- where nothing is true of all steps, but what follows is, the last decision is wrong
pub follows_flipped : (f : ℕ → Bool) (steps : List Step) (k : ℕ) (d s : Step) → slice_get steps k ≡ Some d → AllImplied (drop (k + 1) steps)
    → s.lit ≡ negation d.lit → (AllTrue f steps → ⊥) → Follows f steps → Follows f (take k steps ++ s ∷ [])
follows_flipped f steps k d s found implied is none h =
    follows_push f (take k steps) s (follows_first f k steps h)
    (λ _ all.
    let whole = split_at steps k d found in
    let right : lit_true f d.lit ≡ true → ⊥ = λ sure.
    none (subst (AllTrue f) (sym whole)
    (all_through f (take k steps) d (drop (k + 1) steps) (subst (Follows f) whole h) all sure implied)) in
    ap (lit_true f) is ∙ negation_true f d.lit (elim (true_or_false (lit_true f d.lit)) [ inl sure ↦ absurd (right sure) | inr wrong ↦ wrong ]))

take_all : {A : Type 0} (k : ℕ) (xs : List A) → k ≡ length xs → take k xs ≡ xs
take_all k xs e = ap (λ n. take n xs) e ∙ take-length xs

same_extends : (cs : List (List Lit)) (old new : TrailState) → new ≡ old → Extends cs old new
same_extends cs old new e = subst (Extends cs old) (sym e) (record { vars = refl; heavier = omega arith; follows = λ f all h. h })

pub extends_refl : (cs : List (List Lit)) (t : TrailState) → Extends cs t t
extends_refl cs t = record { vars = refl; heavier = omega arith; follows = λ f all h. h }

pub extends_trans : (cs : List (List Lit)) (a b c : TrailState) → Extends cs a b → Extends cs b c → Extends cs a c
extends_trans cs a b c p q =
    let one = p.heavier in
    let two = q.heavier in
    record {
      vars = q.vars ∙ p.vars;
      heavier = omega (arith, one, two);
      follows = λ f all h. q.follows f all (p.follows f all h);
    }

-- an implied literal is put
pub extends_put : (cs : List (List Lit)) (old new : TrailState) (k : ℕ) (s : Step) (put : Put) → k ≡ length old.steps → IsPut old new k s put → new.vars ≡ old.vars
    → Implies cs old.steps s.lit → Extends cs old new
extends_put cs old new k s Done here is vars given =
    let behind : new.steps ≡ old.steps ++ s ∷ [] = is ∙ ap (λ xs. xs ++ s ∷ []) (take_all k old.steps here) in
    let grown : weight old.vars old.steps ≤ weight old.vars (old.steps ++ s ∷ []) = weight-append old.vars old.steps (s ∷ []) in
    let now : trail_weight new ≡ weight old.vars (old.steps ++ s ∷ []) = ap (λ n. weight n new.steps) vars ∙ ap (weight old.vars) behind in
    record {
      vars = vars;
      heavier = omega (arith, grown, now);
      follows = λ f all h. subst (Follows f) (sym behind) (follows_push f old.steps s h (λ _ earlier. given f all earlier));
    }
extends_put cs old new k s (Taken value) here is vars given = same_extends cs old new is.0
extends_put cs old new k s Absent here is vars given = same_extends cs old new is.0

-- a decision is put
pub decided_put : (old new : TrailState) (k : ℕ) (s : Step) (x : ℕ) (put : Put) → k ≡ length old.steps → s.implied ≡ false → s.lit.var ≡ x → new.vars ≡ old.vars
    → length new.steps ≤ new.vars → IsPut old new k s put → IsDecided old new x put
decided_put old new k s x Done here free same vars room is =
    let behind : new.steps ≡ old.steps ++ s ∷ [] = is ∙ ap (λ xs. xs ++ s ∷ []) (take_all k old.steps here) in
    let size : length new.steps ≡ length old.steps + 1 = ap length behind ∙ length-append old.steps (s ∷ []) in
    let grown : weight old.vars old.steps < weight old.vars (old.steps ++ s ∷ []) = weight-push old.vars old.steps s (omega (arith, size, room, vars)) in
    let now : trail_weight new ≡ weight old.vars (old.steps ++ s ∷ []) = ap (λ n. weight n new.steps) vars ∙ ap (weight old.vars) behind in
    record {
      vars = vars;
      heavier = omega (arith, grown, now);
      follows = λ f h. subst (Follows f) (sym behind) (follows_push f old.steps s h (λ given _. not_both s.implied given free));
    }
decided_put old new k s x (Taken value) here free same vars room is = (
  is.0,
  λ f all. ap (λ v. lit_true f (record { var = v; neg = false })) (sym same) ∙ is.1 f (subst (AllTrue f) (sym (take_all k old.steps here)) all),
)
decided_put old new k s x Absent here free same vars room is = (is.0, subst (λ v. old.vars ≤ v) same is.1)

-- a clause gives way to what it says under the trail
pub look_of : (steps : List Step) (cs : List (List Lit)) (clause : List Lit) (look : Look) → Entails cs clause → IsClauseLook steps clause look → IsLook cs steps look
look_of steps cs clause Keep holds is = tt
look_of steps cs clause (Move q) holds is = tt
look_of steps cs clause (Forced l) holds is = λ f all true_steps. true_unless (lit_true f l) (λ none. not_both (some_true f clause) (holds f all) (is f true_steps none))
look_of steps cs clause Gone holds is = tt
look_of steps cs clause Conflict holds is = λ f all true_steps. not_both (some_true f clause) (holds f all) (is f true_steps)

-- one literal more that is not open
pub others_more : (steps : List Step) (clause : List Lit) (other : Lit) (i : ℕ) (d : Lit) → i < length clause
    → ((f : ℕ → Bool) → AllTrue f steps → lit_true f other ≡ false → lit_true f (get_or clause i d) ≡ false)
    → OthersFalse steps (take i clause) other → OthersFalse steps (take (i + 1) clause) other
others_more steps clause other i d inside now before f all none =
    list_any_more (lit_true f) clause i d inside ∙ neither (some_true f (take i clause)) (lit_true f (get_or clause i d)) (before f all none) (now f all none)

-- what the parts of an examination say of a clause
pub examined : (steps : List Step) (k : ℕ) (clause : List Lit) (other : Lit) (o : Option Lit) (b : Bool) → k ≡ length steps
    → IfNone o (OthersFalse (take k steps) clause other) → (b ≡ true → Tells (take k steps) other false) → IsClauseLook steps clause (look_from o b other)
examined steps k clause other (Some l) b here closed gone = tt
examined steps k clause other None true here closed gone = λ f all.
    let before : AllTrue f (take k steps) = subst (AllTrue f) (sym (take_all k steps here)) all in
    closed f before (gone refl f before)
examined steps k clause other None false here closed gone = λ f all none. closed f (subst (AllTrue f) (sym (take_all k steps here)) all) none

-- the values of the variables so far
pub told_more : (steps : List Step) (values : List Bool) (value : Bool) → Tells steps (record { var = length values; neg = false }) value
    → ((f : ℕ → Bool) → AllTrue f steps → (x : ℕ) → x < length values → f x ≡ at values x)
    → (f : ℕ → Bool) → AllTrue f steps → (x : ℕ) → x < length values + 1 → f x ≡ at (values ++ value ∷ []) x
unfolding at lit_true
told_more steps values value now before f all x below =
    elim (same_or_not x (length values)) [
      | inl e ↦
          ap f e ∙ now f all
          ∙ sym (get_or-append_seam values value [] false)
          ∙ ap (λ k. get_or (values ++ value ∷ []) k false) (sym e)
      | inr ne ↦
          let less : x < length values = omega (arith, below, ne) in
          before f all x less ∙ sym (get_or-append values (value ∷ []) false x less)
    ]

-- values so far, and one more
pub collected : (old t new : TrailState) (values : List Bool) (var : ℕ) (value : Bool) → t ≡ old → (new ≡ t) × Tells t.steps (record { var = var; neg = false }) value
    → length values ≡ var → ((f : ℕ → Bool) → AllTrue f old.steps → (x : ℕ) → x < var → f x ≡ at values x)
    → (new ≡ old) × ((f : ℕ → Bool) → AllTrue f old.steps → (x : ℕ) → x < var + 1 → f x ≡ at (values ++ value ∷ []) x)
collected old t new values var value same now size before = (
  now.0 ∙ same,
  λ f all x below.
      told_more old.steps values value
      (λ g g_all. ap (λ n. lit_true g (record { var = n; neg = false })) size ∙ now.1 g (subst (λ s. AllTrue g s.steps) (sym same) g_all))
      (λ g g_all y y_below. before g g_all y (omega (arith, y_below, size))) f all x (omega (arith, below, size)),
)
