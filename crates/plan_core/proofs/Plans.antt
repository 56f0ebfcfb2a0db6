-- The plan of a call graph is well formed: above all, its kept edges have no cycle.

use Rattle.std.proofs.Common.{◌≡◌, ℕ, ◌+◌, ◌^◌, ◌<◌, ◌≤◌, ◌&&◌, not, Bool, true, false, List, [], length, map, filter, leb, sym, subst, ◌∙◌, ⊎_elim, arith}
use Rattle.std.proofs.lemmas.List.{get_or_past}
use Rattle.std.proofs.lemmas.List.FromFn.{get_or-map-range_with_len, length-map-range_with_len, length-range_with_len, get_or-range_with_len}
use Rattle.std.proofs.lemmas.List.Elements.{All-contains, filter_passes}
use Rattle.std.proofs.lemmas.List.Kept.{IsStrictlyIncreasing-filter}
use Rattle.std.proofs.lemmas.Bool.{cases_lt, and_parts, and_cases, and_from, not-true, leb-true, leb-false, le-leb, true≢false}
use Rattle.std.specs.List.{Contains, range_with_len}
use Rattle.std.specs.List.Sorted.{IsStrictlyIncreasing}
use Rattle.plan_core.specs.Graph.{callees, calls, Walk, one, more, IsCut, reaches, is_cut, functions, kept_callees, plan_of, IsGraph, IsPlan}
use Rattle.plan_core.proofs.Reaching.{inside_from_call, contains_from_calls, reaches_before_call, reaches_join, reach_from_test, test_from_reach}

pub IsCut_from_test : (rows : List (List ℕ)) (f g : ℕ) → is_cut rows f g ≡ true → IsCut rows f g
IsCut_from_test rows f g does =
    let parts = and_parts (reaches rows g f) (leb g f) does in
    record { back = reach_from_test rows g f parts.0; not_forward = leb-true g f parts.1 }

pub test_from_IsCut : (rows : List (List ℕ)) (f g : ℕ) → IsCut rows f g → is_cut rows f g ≡ true
test_from_IsCut rows f g cut =
    and_from (reaches rows g f) (leb g f) (test_from_reach rows g f cut.back) (le-leb g f cut.not_forward)

-- the rows of the plan
kept : List (List ℕ) → List (List ℕ)
kept rows = map (kept_callees rows) (functions rows)

length-kept : (rows : List (List ℕ)) → length (kept rows) ≡ length rows
unfolding kept
length-kept rows = length-map-range_with_len (kept_callees rows) 0 (length rows)

callees-kept : (rows : List (List ℕ)) (f : ℕ) → f < length rows → callees (kept rows) f ≡ kept_callees rows f
unfolding kept
callees-kept rows f inside = get_or-map-range_with_len (kept_callees rows) 0 (length rows) f f [] inside (omega arith)

-- a kept edge is an edge of the graph, and leads forward where it lies on a cycle
record IsKept (rows : List (List ℕ)) (f g : ℕ) : Type 0 where
  inside : f < length rows
  call : calls rows f g ≡ true
  uncut : is_cut rows f g ≡ false

kept_from_contains : (rows : List (List ℕ)) (f g : ℕ) → Contains (callees (kept rows) f) g → IsKept rows f g
kept_from_contains rows f g has =
    let inside : f < length rows = subst (λ n. f < n) (length-kept rows) (inside_from_call (kept rows) f g has) in
    let test : ℕ → Bool = λ h. calls rows f h && not (is_cut rows f h) in
    let passes = All-contains (λ h. test h ≡ true) (filter test (functions rows)) g (filter_passes test (functions rows))
    (subst (λ gs. Contains gs g) (callees-kept rows f inside) has) in
    let parts = and_parts (calls rows f g) (not (is_cut rows f g)) passes in
    record { inside = inside; call = parts.0; uncut = not-true (is_cut rows f g) parts.1 }

forward : (rows : List (List ℕ)) (f g : ℕ) → IsKept rows f g → reaches rows g f ≡ true → f < g
forward rows f g is_kept back =
    ⊎_elim
    (λ no_way. absurd (true≢false (sym back ∙ no_way)))
    (λ not_back. leb-false g f not_back)
    (and_cases (reaches rows g f) (leb g f) is_kept.uncut)

reaches_call : (rows : List (List ℕ)) (f g : ℕ) → calls rows f g ≡ true → reaches rows f g ≡ true
reaches_call rows f g does = reaches_before_call rows (length rows) f g does

-- a walk over kept edges is one of the graph
reaches_kept : (rows : List (List ℕ)) (f g : ℕ) → Walk (kept rows) f g → (f < length rows) × (reaches rows f g ≡ true)
reaches_kept rows _ _ (one f g has) =
    let is_kept = kept_from_contains rows f g has in (is_kept.inside, reaches_call rows f g is_kept.call)
reaches_kept rows _ _ (more f g h walk has) =
    let before = reaches_kept rows f g walk in
    let is_kept = kept_from_contains rows g h has in
    (before.0, reaches_join rows f g h is_kept.inside before.1 (reaches_call rows g h is_kept.call))

-- a walk over kept edges from which there is a way back leads forward
rises : (rows : List (List ℕ)) → IsGraph rows → (f g : ℕ) → Walk (kept rows) f g → reaches rows g f ≡ true → f < g
rises rows graph _ _ (one f g has) back = forward rows f g (kept_from_contains rows f g has) back
rises rows graph _ _ (more f g h walk has) back =
    let before = reaches_kept rows f g walk in
    let is_kept = kept_from_contains rows g h has in
    let inside : h < length rows = graph.inside g h (contains_from_calls rows g h is_kept.call) in
    let start : f < g =
    rises rows graph f g walk (reaches_join rows g h f inside (reaches_call rows g h is_kept.call) back) in
    let step : g < h = forward rows g h is_kept (reaches_join rows h f g before.0 back before.1) in
    omega arith

rising_range : (n : ℕ) → IsStrictlyIncreasing (range_with_len 0 n)
rising_range n k below =
    let lower : k + 1 < n = subst (λ m. k + 1 < m) (length-range_with_len 0 n) below in
    omega (arith, get_or-range_with_len 0 n k 0 (omega (arith, lower)), get_or-range_with_len 0 n (k + 1) 0 lower)

rising_kept : (rows : List (List ℕ)) (f : ℕ) → IsStrictlyIncreasing (callees (kept rows) f)
rising_kept rows f =
    ⊎_elim
    (λ inside.
    subst IsStrictlyIncreasing (sym (callees-kept rows f inside))
    (IsStrictlyIncreasing-filter (λ g. calls rows f g && not (is_cut rows f g)) (functions rows) (rising_range (length rows))))
    (λ past.
    subst IsStrictlyIncreasing (sym (get_or_past (kept rows) f [] (subst (λ n. n ≤ f) (sym (length-kept rows)) past)))
    (λ k below. absurd (omega (arith, below))))
    (cases_lt f (length rows))

pub plan_of_graph : (rows : List (List ℕ)) → IsGraph rows → IsPlan (plan_of rows).callees
unfolding kept
plan_of_graph rows graph =
    record {
      few = subst (λ n. n < 2 ^ 32) (sym (length-kept rows)) graph.few;
      rising = rising_kept rows;
      inside =
          λ f g has.
          subst (λ n. g < n) (sym (length-kept rows))
          (graph.inside f g (contains_from_calls rows f g (kept_from_contains rows f g has).call));
      acyclic =
          λ f walk.
          let start = reaches_kept rows f f walk in
          let less : f < f = rises rows graph f f walk start.1 in omega (arith, less);
    }
