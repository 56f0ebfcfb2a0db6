-- Clauses that are derived by resolution, and what they assert.

use Rattle.std.proofs.Common.{◌≡◌, ◌⊎◌, ℕ, ◌+◌, ◌<◌, ◌≤◌, inl, inr, Bool, true, false, ◌||◌, List, [], ◌∷◌, ◌++◌, length, take, get_or, slice_get, Option, None, Some, IfSome, is_some, MatchBool, Result, Ok, Err, IfOk, refl, sym, subst, ap, ◌∙◌, arith}
use Rattle.std.specs.List.{swap_remove, Contains}
use Rattle.std.proofs.lemmas.Bool.{false≢true}
use Rattle.std.proofs.lemmas.Option.{slice_get-get_or, slice_get_within, get_or_from_slice_get}
use Rattle.std.proofs.lemmas.List.{take_more}
use Rattle.std.proofs.lemmas.List.Folds.{list_any_at}
use Rattle.std.proofs.lemmas.List.Elements.{Contains-append_left, Contains-append_right, Contains-append_cases, Contains-push, Contains-push_cases}
use Rattle.std.proofs.lemmas.List.Sorted.{IsPermutation-swap_remove, Contains-permutation}
use Rattle.sat_base.specs.declared.literal.Lit.{Lit}
use Rattle.sat_base.specs.Logic.{lit_true, some_true, negation}
use Rattle.sat_trail.specs.declared.trail.Step.{Step}
use Rattle.sat_clauses.specs.Held.{Entails}
use Rattle.sat_trail.specs.Steps.{TrailState}
use Rattle.sat_cdcl.specs.Answered.{Rises}
use Rattle.sat_cdcl.specs.Resolvents.{Takes, TakesAll, Leaves, IsAsserting}
use Rattle.sat_clauses.proofs.TruthLemmas.{true_or_false, not_both, lit_false}
use Rattle.sat_cdcl.proofs.SearchLemmas.{rises_asserted}

right_of : (a b : Bool) → a ≡ false → (a || b) ≡ true → b ≡ true
right_of true b wrong h = not_both true refl wrong
right_of false b wrong h = h

-- a clause that holds has a true literal
true_in : (f : ℕ → Bool) (c : List Lit) → some_true f c ≡ true → (q : Lit) × Contains c q × (lit_true f q ≡ true)
true_in f [] h = absurd (false≢true h)
true_in f (x ∷ xs) h =
    elim (true_or_false (lit_true f x)) [
      | inl sure ↦ (x, Contains-append_left (x ∷ []) xs x (Contains-push [] x), sure)
      | inr wrong ↦
          let t = true_in f xs (right_of (lit_true f x) (some_true f xs) wrong h) in (t.0, Contains-append_right (x ∷ []) xs t.0 t.1, t.2)
    ]

some_in : (f : ℕ → Bool) (c : List Lit) (q : Lit) → Contains c q → lit_true f q ≡ true → some_true f c ≡ true
some_in f c q there sure = list_any_at (lit_true f) c there.0 q there.1 (ap (lit_true f) there.2 ∙ sure)

-- a literal is put in
pub takes_push : (old new : List Lit) (l : Lit) → new ≡ old ++ l ∷ [] → Takes old new l
takes_push old new l is = record {
  kept = λ q h. subst (λ c. Contains c q) (sym is) (Contains-append_left old (l ∷ []) q h);
  taken = subst (λ c. Contains c l) (sym is) (Contains-push old l);
}

-- or is there already
pub takes_there : (o : Option ℕ) (xs : List Lit) (l : Lit) → IfSome o (λ k. slice_get xs k ≡ Some l) → is_some o ≡ true → Takes xs xs l
takes_there None xs l h some = absurd (false≢true some)
takes_there (Some k) xs l h some = record {
  kept = λ q there. there;
  taken = (k, slice_get_within xs k l h, get_or_from_slice_get xs k l l h);
}

-- a literal is taken out
pub leaves_rest : (xs ys : List Lit) (k : ℕ) (out : Lit) → k < length xs → out ≡ get_or xs k out → ys ≡ swap_remove xs k out → Leaves xs ys k
leaves_rest xs ys k out inside at is q h =
    elim
    (Contains-append_cases (out ∷ []) (swap_remove xs k out) q
    (Contains-permutation xs (out ∷ swap_remove xs k out) q (IsPermutation-swap_remove xs k out inside at) h)) [
      | inl first ↦
          elim (Contains-push_cases [] out q first) [
            | inl none ↦ let low = none.1 in absurd (omega (arith, low))
            | inr same ↦ inl (slice_get-get_or xs k out inside ∙ ap Some (sym at ∙ same))
          ]
      | inr later ↦ inr (subst (λ c. Contains c q) (sym is) later)
    ]

pub all_none : (old : List Lit) (but : Option Lit) → TakesAll old old [] but
all_none old but = record { kept = λ q h. h; taken = λ q none. let low = none.1 in absurd (omega (arith, low)) }

more_has : (clause : List Lit) (i : ℕ) (d q : Lit) → i < length clause → Contains (take (i + 1) clause) q → Contains (take i clause) q ⊎ (get_or clause i d ≡ q)
more_has clause i d q inside h = Contains-push_cases (take i clause) (get_or clause i d) q (subst (λ c. Contains c q) (take_more clause i d inside) h)

-- one literal more of the clause is put in
pub all_taken : (old mid new : List Lit) (clause : List Lit) (but : Option Lit) (i : ℕ) (d : Lit) → i < length clause → TakesAll old mid (take i clause) but
    → Takes mid new (get_or clause i d) → TakesAll old new (take (i + 1) clause) but
all_taken old mid new clause but i d inside before now = record {
  kept = λ q h. now.kept q (before.kept q h);
  taken = λ q h.
      elim (more_has clause i d q inside h) [
        | inl earlier ↦
            elim (before.taken q earlier) [
              | inl out ↦ inl out
              | inr there ↦ inr (now.kept q there)
            ]
        | inr same ↦ inr (subst (Contains new) same now.taken)
      ];
}

-- or it is the one that is left out
pub all_but : (old new : List Lit) (clause : List Lit) (but : Option Lit) (i : ℕ) (d : Lit) → i < length clause → TakesAll old new (take i clause) but
    → but ≡ Some (get_or clause i d) → TakesAll old new (take (i + 1) clause) but
all_but old new clause but i d inside before is = record {
  kept = before.kept;
  taken = λ q h.
      elim (more_has clause i d q inside h) [
        | inl earlier ↦ before.taken q earlier
        | inr same ↦ inl (is ∙ ap Some same)
      ];
}

-- the clause of a conflict
pub entails_taken : (cs : List (List Lit)) (empty new clause : List Lit) → Entails cs clause → TakesAll empty new clause None → Entails cs new
entails_taken cs empty new clause holds takes f all =
    let t = true_in f clause (holds f all) in
    elim (takes.taken t.0 t.1) [
      | inl none ↦ absurd (cc none)
      | inr there ↦ some_in f new t.0 there t.2
    ]

same_lit : (a b : Lit) → Some a ≡ Some b → a ≡ b
same_lit a b e = cc e

-- a clause that is resolved with another upon this literal
pub entails_resolved : (cs : List (List Lit)) (old mid new clause : List Lit) (k : ℕ) (gone pivot : Lit) → gone ≡ negation pivot → slice_get old k ≡ Some gone
    → Leaves old mid k → Entails cs clause → TakesAll mid new clause (Some pivot) → Entails cs old → Entails cs new
entails_resolved cs old mid new clause k gone pivot is found leaves holds takes before f all =
    elim (true_or_false (lit_true f gone)) [
      | inl sure ↦
          let t = true_in f clause (holds f all) in
          elim (takes.taken t.0 t.1) [
            | inl same ↦ not_both (lit_true f t.0) t.2 (ap (lit_true f) (sym (same_lit pivot t.0 same)) ∙ lit_false f pivot (ap (lit_true f) (sym is) ∙ sure))
            | inr there ↦ some_in f new t.0 there t.2
          ]
      | inr wrong ↦
          let t = true_in f old (before f all) in
          elim (leaves t.0 t.1) [
            | inl at ↦ not_both (lit_true f t.0) t.2 (ap (lit_true f) (sym (same_lit gone t.0 (sym found ∙ at))) ∙ wrong)
            | inr stays ↦ some_in f new t.0 (takes.kept t.0 stays) t.2
          ]
    ]

-- the clause asserts its literal
pub rises_jump : (old new : TrailState) (clause : List Lit) (l : Lit) (k : ℕ) (s : Step) → IsAsserting old.steps clause l k → s.lit ≡ l → s.implied ≡ true
    → length old.steps ≤ old.vars → new.vars ≡ old.vars → new.steps ≡ take k old.steps ++ s ∷ [] → (cs : List (List Lit)) (us : List Lit) → Entails cs clause
    → Rises cs us old new
rises_jump old new clause l k s asserts same given room vars is cs us holds =
    let inside = asserts.place in
    let blank : Step = record { lit = record { var = 0; neg = false }; implied = false; reason = None } in
    let d : Step = get_or old.steps k blank in
    let found : slice_get old.steps k ≡ Some d = slice_get-get_or old.steps k blank inside in
    rises_asserted cs us old new k d s clause found (asserts.decision d found) given
    (λ f all none. asserts.others f all (ap (lit_true f) (sym same) ∙ none)) is vars (omega (arith, inside, room)) holds

pub match_bool : (b : Bool) (P Q R : Type 0) → (P → R) → MatchBool b P Q → MatchBool b R Q
match_bool true P Q R step h = step h
match_bool false P Q R step h = h

pub if_ok : {A E : Type 0} (r : Result A E) (P Q : A → Type 0) → ((a : A) → P a → Q a) → IfOk r P → IfOk r Q
if_ok (Ok a) P Q step h = step a h
if_ok (Err e) P Q step h = tt

pub when_true : (b : Bool) (P Q : Type 0) → b ≡ true → MatchBool b P Q → P
when_true true P Q is h = h
when_true false P Q is h = absurd (false≢true is)

pub when_false : (b : Bool) (P Q : Type 0) → b ≡ false → MatchBool b P Q → Q
when_false true P Q is h = not_both true refl is
when_false false P Q is h = h
