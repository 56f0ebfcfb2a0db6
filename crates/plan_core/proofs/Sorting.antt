-- All functions of a plan get their places exactly where no kept edges make a cycle.

use Rattle.std.proofs.Common.{◌≡◌, ℕ, ◌<◌, ◌≤◌, ◌&&◌, Bool, true, false, List, length, map, get_or, refl, sym, subst, ap, ◌∙◌, ⊎_elim, arith}
use Rattle.std.proofs.lemmas.List.{get_or_past, get_or-map, length-map}
use Rattle.std.proofs.lemmas.List.Folds.{list_all_at}
use Rattle.std.proofs.lemmas.Bool.{cases_Bool, cases_lt, and_left, and_right, true_from_ne_false}
use Rattle.std.specs.List.{Contains, list_all}
use Rattle.plan_core.specs.declared.mark.Mark.{Mark}
use Rattle.plan_core.specs.declared.mark.Mark.TheVariants.{Free, Claimed, Published}
use Rattle.plan_core.specs.Graph.{callees, Walk, one, more, IsGraph}
use Rattle.plan_core.specs.Core.{mark_of, is_free, is_claimed, is_published, all_published, may_claim}
use Rattle.plan_core.specs.Order.{HasNoCycle, is_placed, Keeps, Settled}
use Rattle.plan_core.proofs.Progress.{some_claimable}
use Rattle.plan_core.proofs.Reaching.{inside_from_call}
use Rattle.plan_core.proofs.Placing.{settled_end}

walk_begins : (rows : List (List ℕ)) (f g : ℕ) → Walk rows f g → f < length rows
walk_begins rows _ _ (one f g has) = inside_from_call rows f g has
walk_begins rows _ _ (more f g h walk has) = walk_begins rows f g walk

pub no_cycle_from_placed : (rows : List (List ℕ)) (placed : List Bool) (met : List ℕ) (waiting : List (List ℕ)) (order : List ℕ)
    → Keeps rows placed met waiting order → ((f : ℕ) → f < length placed → is_placed placed f ≡ true) → HasNoCycle rows
no_cycle_from_placed rows placed met waiting order kept all f walk =
    kept.acyclic f (all f (subst (λ n. f < n) (sym kept.placed_many) (walk_begins rows f f walk))) walk

-- a function with its place counts as published, the others as free
mark : Bool → Mark
mark true = Published
mark false = Free

marks_of : List Bool → List Mark
marks_of placed = map mark placed

mark_at : (placed : List Bool) (f : ℕ) → f < length placed → mark_of (marks_of placed) f ≡ mark (is_placed placed f)
unfolding marks_of
mark_at placed f inside = get_or-map mark placed f false Published inside

length-marks : (placed : List Bool) → length (marks_of placed) ≡ length placed
unfolding marks_of
length-marks placed = length-map placed mark

none_claimed : (placed : List Bool) (f : ℕ) → is_claimed (mark_of (marks_of placed) f) ≡ false
unfolding mark
none_claimed placed f =
    ⊎_elim
    (λ inside.
    ap is_claimed (mark_at placed f inside) ∙ (elim (is_placed placed f) as (λ b. is_claimed (mark b) ≡ false) [ true ↦ refl | false ↦ refl ]))
    (λ past. ap is_claimed (get_or_past (marks_of placed) f Published (subst (λ n. n ≤ f) (sym (length-marks placed)) past)))
    (cases_lt f (length placed))

free_at : (placed : List Bool) (f : ℕ) → f < length placed → is_placed placed f ≡ false → is_free (mark_of (marks_of placed) f) ≡ true
unfolding mark
free_at placed f inside bare = ap is_free (mark_at placed f inside ∙ ap mark bare)

open_at : (placed : List Bool) (f : ℕ) → f < length placed → is_placed placed f ≡ false → is_published (mark_of (marks_of placed) f) ≡ false
unfolding mark
open_at placed f inside bare = ap is_published (mark_at placed f inside ∙ ap mark bare)

busy_at : (placed : List Bool) (f : ℕ) → f < length placed → is_placed placed f ≡ true → is_free (mark_of (marks_of placed) f) ≡ false
unfolding mark
busy_at placed f inside is = ap is_free (mark_at placed f inside ∙ ap mark is)

pub placed_from_no_cycle : (rows : List (List ℕ)) (placed : List Bool) (waiting : List (List ℕ)) (order : List ℕ) (turn : ℕ)
    → IsGraph rows → length placed ≡ length rows → length order ≤ turn
    → ((f : ℕ) → f < length rows → Settled rows placed waiting order turn f)
    → HasNoCycle rows → (f : ℕ) → f < length placed → is_placed placed f ≡ true
placed_from_no_cycle rows placed waiting order turn graph many few settled acyclic f inside =
    true_from_ne_false (is_placed placed f)
    (λ bare.
    some_claimable rows (marks_of placed) acyclic (none_claimed placed) (f, free_at placed f inside bare)
    (λ h low.
    let within : h < length placed = subst (λ n. h < n) (length-marks placed) low in
    ⊎_elim
    (λ is. and_left (is_free (mark_of (marks_of placed) h)) (all_published (marks_of placed) (callees rows h)) (busy_at placed h within is))
    (λ none.
    let next = settled_end rows placed waiting order turn h few (settled h (subst (λ n. h < n) many within)) none in
    let g = next.0 in
    let has = next.1 in
    let below : g < length placed = subst (λ n. g < n) (sym many) (graph.inside h g has) in
    and_right (is_free (mark_of (marks_of placed) h)) (all_published (marks_of placed) (callees rows h))
    (list_all_at (λ i. is_published (mark_of (marks_of placed) i)) (callees rows h) has.0 g has.1
    (ap (λ i. is_published (mark_of (marks_of placed) i)) has.2 ∙ open_at placed g below next.2)))
    (cases_Bool (is_placed placed h))))
