-- Where no function is claimed and some function is free, some function may be claimed: else one
-- could go from a free function to an open callee without end, and never meet a function again.

use Rattle.std.proofs.Common.{◌≡◌, ℕ, zero, suc, ◌+◌, ◌<◌, ◌≤◌, Bool, true, false, List, [], ◌∷◌, length, eqb, refl, sym, subst, ◌∙◌, ⊎_elim, arith}
use Rattle.std.proofs.lemmas.Bool.{cases_Bool, and_cases, or_cases, or_parts, eqb-true, false≢true, true≢false}
use Rattle.std.proofs.lemmas.Map.Steps.{length-le_from_distinct_below}
use Rattle.std.specs.List.{list_all, list_any, Contains, IsDistinct, AllByRecursion}
use Rattle.plan_core.specs.declared.mark.Mark.{Mark}
use Rattle.plan_core.specs.declared.mark.Mark.TheVariants.{Free, Claimed, Published}
use Rattle.plan_core.specs.Graph.{callees, Walk, one, more}
use Rattle.plan_core.specs.Core.{mark_of, is_free, is_claimed, is_published, all_published, may_claim, NoneIsClaimed, SomeIsFree}
use Rattle.plan_core.specs.Order.{HasNoCycle}
use Rattle.plan_core.proofs.Marks.{inside_from_free}

is_free-open : (m : Mark) → is_claimed m ≡ false → is_published m ≡ false → is_free m ≡ true
is_free-open Free claimed published = refl
is_free-open (Claimed w) claimed published = absurd (true≢false claimed)
is_free-open Published claimed published = absurd (true≢false published)

-- an element that fails, of a list of which not all pass
failing : (test : ℕ → Bool) (xs : List ℕ) → list_all test xs ≡ false → (x : ℕ) × Contains xs x × (test x ≡ false)
failing test [] fails = absurd (true≢false fails)
failing test (x ∷ xs) fails =
    ⊎_elim
    (λ here. (x, (zero, omega arith, refl), here))
    (λ later. let found = failing test xs later in (found.0, (suc found.1.0, omega (arith, found.1.1), found.1.2), found.2))
    (and_cases (test x) (list_all test xs) fails)

-- the functions passed on the way to f
Leads : List (List ℕ) → List ℕ → ℕ → Type 0
Leads rows past f = (q : ℕ) → list_any (eqb q) past ≡ true → Walk rows q f

apart : (g : ℕ) (xs : List ℕ) → list_any (eqb g) xs ≡ false → AllByRecursion (λ y. eqb g y ≡ false) xs
apart g [] none = tt
apart g (x ∷ xs) none = let parts = or_parts (eqb g x) (list_any (eqb g) xs) none in (parts.0, apart g xs parts.1)

-- an open callee of a free function that may not be claimed
open_callee : (rows : List (List ℕ)) (marks : List Mark) (f : ℕ)
    → NoneIsClaimed marks → is_free (mark_of marks f) ≡ true → may_claim rows marks f ≡ false
    → (g : ℕ) × Contains (callees rows f) g × (is_free (mark_of marks g) ≡ true)
open_callee rows marks f quiet free stuck =
    ⊎_elim
    (λ busy. absurd (true≢false (sym free ∙ busy)))
    (λ some_open.
    let found = failing (λ i. is_published (mark_of marks i)) (callees rows f) some_open in
    (found.0, found.1, is_free-open (mark_of marks found.0) (quiet found.0) found.2))
    (and_cases (is_free (mark_of marks f)) (all_published marks (callees rows f)) stuck)

leads_on : (rows : List (List ℕ)) (past : List ℕ) (f g : ℕ)
    → Leads rows past f → Contains (callees rows f) g → Leads rows (f ∷ past) g
unfolding Leads
leads_on rows past f g leads calls_g q passed =
    ⊎_elim
    (λ last. one q g (subst (λ i. Contains (callees rows i) g) (sym (eqb-true q f last)) calls_g))
    (λ before. more q f g (leads q before) calls_g)
    (or_cases (eqb q f) (list_any (eqb q) past) passed)

no_end : (rows : List (List ℕ)) (marks : List Mark) → HasNoCycle rows → NoneIsClaimed marks
    → ((f : ℕ) → f < length marks → may_claim rows marks f ≡ false)
    → (fuel : ℕ) (f : ℕ) (past : List ℕ) → is_free (mark_of marks f) ≡ true → Leads rows past f
    → IsDistinct eqb (f ∷ past) → ((q : ℕ) → list_any (eqb q) (f ∷ past) ≡ true → q < length marks)
    → length marks ≤ length past + fuel → ⊥
unfolding Leads IsDistinct
no_end rows marks acyclic quiet stuck zero f past free leads distinct below fuel_is =
    let few = length-le_from_distinct_below (f ∷ past) (length marks) distinct below in omega (arith, few, fuel_is)
no_end rows marks acyclic quiet stuck (suc fuel) f past free leads distinct below fuel_is =
    let next = open_callee rows marks f quiet free (stuck f (inside_from_free marks f free)) in
    let leads' : Leads rows (f ∷ past) next.0 = leads_on rows past f next.0 leads next.1 in
    no_end rows marks acyclic quiet stuck fuel next.0 (f ∷ past) next.2 leads'
    (⊎_elim
    (λ met. absurd (acyclic next.0 (leads' next.0 met)))
    (λ new. (apart next.0 (f ∷ past) new, distinct))
    (cases_Bool (list_any (eqb next.0) (f ∷ past))))
    (λ q passed. ⊎_elim
    (λ last. subst (λ i. i < length marks) (sym (eqb-true q next.0 last)) (inside_from_free marks next.0 next.2))
    (λ before. below q before)
    (or_cases (eqb q next.0) (list_any (eqb q) (f ∷ past)) passed))
    (omega (arith, fuel_is))

pub some_claimable : (rows : List (List ℕ)) (marks : List Mark)
    → HasNoCycle rows → NoneIsClaimed marks → SomeIsFree marks
    → ((f : ℕ) → f < length marks → may_claim rows marks f ≡ false) → ⊥
unfolding Leads IsDistinct
some_claimable rows marks acyclic quiet some stuck =
    no_end rows marks acyclic quiet stuck (length marks) some.0 [] some.1
    (λ q none. absurd (false≢true none))
    (tt, tt)
    (λ q last. ⊎_elim
    (λ same. subst (λ i. i < length marks) (sym (eqb-true q some.0 same)) (inside_from_free marks some.0 some.1))
    (λ none. absurd (false≢true none))
    (or_cases (eqb q some.0) false last))
    (omega arith)
