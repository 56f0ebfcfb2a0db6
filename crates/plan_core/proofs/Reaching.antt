-- Reaching by the test is reaching by walks.

use Rattle.std.proofs.Common.{◌≡◌, ℕ, zero, suc, ◌<◌, ◌&&◌, Bool, true, List, [], length, nat_eq, eqb, get_or, refl, sym, subst, ⊎_elim, inl, inr, arith}
use Rattle.std.proofs.lemmas.List.{get_or_past}
use Rattle.std.proofs.lemmas.List.Folds.{list_any_at}
use Rattle.std.proofs.lemmas.Map.Views.{Contains-from_any}
use Rattle.std.proofs.lemmas.Bool.{cases_eq, cases_lt, and_parts, and_from, or_cases, or_left, or_right, eqb-true, eq-eqb}
use Rattle.std.specs.List.{Contains}
use Rattle.plan_core.specs.Graph.{callees, calls, Walk, one, more, Reaches, reaches_before, reaches}

pub calls_from_contains : (rows : List (List ℕ)) (f g : ℕ) → Contains (callees rows f) g → calls rows f g ≡ true
calls_from_contains rows f g has =
    list_any_at (nat_eq g) (callees rows f) has.0 g has.1 (eq-eqb g (get_or (callees rows f) has.0 g) (sym has.2))

pub contains_from_calls : (rows : List (List ℕ)) (f g : ℕ) → calls rows f g ≡ true → Contains (callees rows f) g
contains_from_calls rows f g does = Contains-from_any eqb-true g (callees rows f) does

-- a function that calls another is one of the graph
pub inside_from_call : (rows : List (List ℕ)) (f g : ℕ) → Contains (callees rows f) g → f < length rows
inside_from_call rows f g has =
    ⊎_elim
    (λ inside. inside)
    (λ past. let none = subst (λ gs. Contains gs g) (get_or_past rows f [] past) has in absurd (omega (arith, none.1)))
    (cases_lt f (length rows))

reaches_before_itself : (rows : List (List ℕ)) (k f : ℕ) → reaches_before rows k f f ≡ true
unfolding reaches_before
reaches_before_itself rows zero f = or_left (eqb f f) (calls rows f f) (eq-eqb f f refl)
reaches_before_itself rows (suc k) f =
    or_left (reaches_before rows k f f) (reaches_before rows k f k && reaches_before rows k k f) (reaches_before_itself rows k f)

pub reaches_before_call : (rows : List (List ℕ)) (k f g : ℕ) → calls rows f g ≡ true → reaches_before rows k f g ≡ true
unfolding reaches_before
reaches_before_call rows zero f g does = or_right (eqb f g) (calls rows f g) does
reaches_before_call rows (suc k) f g does =
    or_left (reaches_before rows k f g) (reaches_before rows k f k && reaches_before rows k k g) (reaches_before_call rows k f g does)

-- at its ends a walk needs k no more than once
to_last : (rows : List (List ℕ)) (k f : ℕ) → reaches_before rows (suc k) f k ≡ true → reaches_before rows k f k ≡ true
unfolding reaches_before
to_last rows k f does =
    ⊎_elim
    (λ without. without)
    (λ by. (and_parts (reaches_before rows k f k) (reaches_before rows k k k) by).0)
    (or_cases (reaches_before rows k f k) (reaches_before rows k f k && reaches_before rows k k k) does)

from_last : (rows : List (List ℕ)) (k g : ℕ) → reaches_before rows (suc k) k g ≡ true → reaches_before rows k k g ≡ true
unfolding reaches_before
from_last rows k g does =
    ⊎_elim
    (λ without. without)
    (λ by. (and_parts (reaches_before rows k k k) (reaches_before rows k k g) by).1)
    (or_cases (reaches_before rows k k g) (reaches_before rows k k k && reaches_before rows k k g) does)

pub reaches_before_join : (rows : List (List ℕ)) (k f m g : ℕ) → m < k
    → reaches_before rows k f m ≡ true → reaches_before rows k m g ≡ true → reaches_before rows k f g ≡ true
unfolding reaches_before
reaches_before_join rows zero f m g below there back = absurd (omega (arith, below))
reaches_before_join rows (suc k) f m g below there back =
    let R : ℕ → ℕ → Bool = reaches_before rows k in
    let direct : R f g ≡ true → reaches_before rows (suc k) f g ≡ true = λ h. or_left (R f g) (R f k && R k g) h in
    let by : R f k ≡ true → R k g ≡ true → reaches_before rows (suc k) f g ≡ true =
    λ h i. or_right (R f g) (R f k && R k g) (and_from (R f k) (R k g) h i) in
    ⊎_elim
    (λ last. by
    (to_last rows k f (subst (λ i. reaches_before rows (suc k) f i ≡ true) last there))
    (from_last rows k g (subst (λ i. reaches_before rows (suc k) i g ≡ true) last back)))
    (λ other.
    let lower : m < k = omega (arith, below, other) in
    ⊎_elim
    (λ there'. ⊎_elim
    (λ back'. direct (reaches_before_join rows k f m g lower there' back'))
    (λ back'. let parts = and_parts (R m k) (R k g) back' in by (reaches_before_join rows k f m k lower there' parts.0) parts.1)
    (or_cases (R m g) (R m k && R k g) back))
    (λ there'. let first = and_parts (R f k) (R k m) there' in ⊎_elim
    (λ back'. by first.0 (reaches_before_join rows k k m g lower first.1 back'))
    (λ back'. by first.0 (and_parts (R m k) (R k g) back').1)
    (or_cases (R m g) (R m k && R k g) back))
    (or_cases (R f m) (R f k && R k m) there))
    (cases_eq m k)

pub reaches_join : (rows : List (List ℕ)) (f m g : ℕ) → m < length rows
    → reaches rows f m ≡ true → reaches rows m g ≡ true → reaches rows f g ≡ true
reaches_join rows f m g below there back = reaches_before_join rows (length rows) f m g below there back

pub reaches_walk : (rows : List (List ℕ)) (f g : ℕ) → Walk rows f g → reaches rows f g ≡ true
reaches_walk rows _ _ (one f g has) = reaches_before_call rows (length rows) f g (calls_from_contains rows f g has)
reaches_walk rows _ _ (more f g h walk has) =
    reaches_join rows f g h (inside_from_call rows g h has) (reaches_walk rows f g walk)
    (reaches_before_call rows (length rows) g h (calls_from_contains rows g h has))

walk_join : (rows : List (List ℕ)) (f m g : ℕ) → Walk rows f m → Walk rows m g → Walk rows f g
walk_join rows f _ _ there (one m g has) = more f m g there has
walk_join rows f _ _ there (more m h g back has) = more f h g (walk_join rows f m h there back) has

reach_join : (rows : List (List ℕ)) (f m g : ℕ) → Reaches rows f m → Reaches rows m g → Reaches rows f g
reach_join rows f m g there back =
    ⊎_elim
    (λ same. subst (λ i. Reaches rows i g) (sym same) back)
    (λ walk. ⊎_elim
    (λ same. inr (subst (λ i. Walk rows f i) same walk))
    (λ walk'. inr (walk_join rows f m g walk walk'))
    back)
    there

reach_from_before : (rows : List (List ℕ)) (k f g : ℕ) → reaches_before rows k f g ≡ true → Reaches rows f g
unfolding reaches_before
reach_from_before rows zero f g does =
    ⊎_elim
    (λ same. inl (eqb-true f g same))
    (λ call. inr (one f g (contains_from_calls rows f g call)))
    (or_cases (eqb f g) (calls rows f g) does)
reach_from_before rows (suc k) f g does =
    ⊎_elim
    (λ without. reach_from_before rows k f g without)
    (λ by.
    let parts = and_parts (reaches_before rows k f k) (reaches_before rows k k g) by in
    reach_join rows f k g (reach_from_before rows k f k parts.0) (reach_from_before rows k k g parts.1))
    (or_cases (reaches_before rows k f g) (reaches_before rows k f k && reaches_before rows k k g) does)

pub reach_from_test : (rows : List (List ℕ)) (f g : ℕ) → reaches rows f g ≡ true → Reaches rows f g
reach_from_test rows f g does = reach_from_before rows (length rows) f g does

pub test_from_reach : (rows : List (List ℕ)) (f g : ℕ) → Reaches rows f g → reaches rows f g ≡ true
test_from_reach rows f g reach =
    ⊎_elim
    (λ same. subst (λ i. reaches rows f i ≡ true) same (reaches_before_itself rows (length rows) f))
    (λ walk. reaches_walk rows f g walk)
    reach
