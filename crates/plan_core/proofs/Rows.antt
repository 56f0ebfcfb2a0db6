-- Rows of kept callees, and when a plan is well formed.

use Rattle.std.proofs.Common.{◌≡◌, ℕ, zero, suc, ◌+◌, ◌^◌, ◌<◌, ◌≤◌, ◌↔◌, Bool, true, false, List, [], ◌∷◌, length, get_or, refl, sym, subst, ap, ◌∙◌, ⊎_elim, arith}
use Rattle.std.proofs.lemmas.List.{get_or_past}
use Rattle.std.proofs.lemmas.Bool.{cases_lt, false≢true}
use Rattle.std.specs.List.{Contains}
use Rattle.std.specs.List.Sorted.{IsStrictlyIncreasing}
use Rattle.plan_core.specs.Graph.{callees, IsGraph, IsPlan}
use Rattle.plan_core.specs.Order.{IsRow, HasNoCycle}
use Rattle.plan_core.proofs.Reaching.{inside_from_call}

pub get_or_any : (xs : List ℕ) (i a b : ℕ) → i < length xs → get_or xs i a ≡ get_or xs i b
get_or_any [] i a b low = absurd (omega (arith, low))
get_or_any (x ∷ xs) zero a b low = refl
get_or_any (x ∷ xs) (suc i) a b low = get_or_any xs i a b (omega (arith, low))

-- a callee that is no function of the plan
pub not_inside : (n : ℕ) (row : List ℕ) (k : ℕ) → k < length row → n ≤ get_or row k 0 → IsRow n row → ⊥
not_inside n row k low past is =
    let inside = is.inside (get_or row k 0) (k, low, get_or_any row k (get_or row k 0) 0 low) in omega (arith, inside, past)

-- a callee that does not stand above the one before it
pub not_rising : (n : ℕ) (row : List ℕ) (k j : ℕ) → j + 1 ≡ k → k < length row → get_or row k 0 ≤ get_or row j 0 → IsRow n row → ⊥
not_rising n row k j next low falls is =
    let rise = is.rising j (omega (arith, next, low)) in
    let same : get_or row (j + 1) 0 ≡ get_or row k 0 = ap (λ (i : ℕ). get_or row i 0) next in
    omega (arith, rise, same, falls)

pub row_from : (n : ℕ) (row : List ℕ) → ((k : ℕ) → k < length row → get_or row k 0 < n)
    → ((k : ℕ) → k + 1 < length row → get_or row k 0 < get_or row (k + 1) 0) → IsRow n row
row_from n row inside rising =
    record {
      rising = rising;
      inside = λ g has. subst (λ (i : ℕ). i < n) (get_or_any row has.0 0 g has.1 ∙ has.2) (inside has.0 has.1);
    }

-- a plan is well formed exactly where its rows are, and its edges have no cycle
pub graph_from_rows : (rows : List (List ℕ)) → length rows < 2 ^ 32 → ((f : ℕ) → f < length rows → IsRow (length rows) (callees rows f)) → IsGraph rows
graph_from_rows rows few all =
    record { few = few; inside = λ f g has. (all f (inside_from_call rows f g has)).inside g has }

pub plan_from : (rows : List (List ℕ)) → length rows < 2 ^ 32 → ((f : ℕ) → f < length rows → IsRow (length rows) (callees rows f)) → HasNoCycle rows → IsPlan rows
plan_from rows few all acyclic =
    record {
      few = few;
      rising =
          λ f. ⊎_elim
          (λ inside. (all f inside).rising)
          (λ past. subst IsStrictlyIncreasing (sym (get_or_past rows f [] past)) (λ k below. absurd (omega (arith, below))))
          (cases_lt f (length rows));
      inside = λ f g has. (all f (inside_from_call rows f g has)).inside g has;
      acyclic = acyclic;
    }

pub rows_from_plan : (rows : List (List ℕ)) → IsPlan rows → (f : ℕ) → IsRow (length rows) (callees rows f)
rows_from_plan rows plan f = record { rising = plan.rising f; inside = λ g has. plan.inside f g has }

-- the row that a loop reads at i is the row of i
pub row_read : (rows items : List (List ℕ)) (i : ℕ) (row slice : List ℕ)
    → items ≡ rows → i < length items → row ≡ get_or items i row → slice ≡ row → slice ≡ callees rows i
row_read rows items i row slice same low at is =
    is ∙ (from items i row low at ∙ ap (λ rs. callees rs i) same)
  where
    from : (l : List (List ℕ)) (k : ℕ) (a : List ℕ) → k < length l → a ≡ get_or l k a → a ≡ get_or l k []
    from [] k a low e = absurd (omega (arith, low))
    from (x ∷ xs) zero a low e = e
    from (x ∷ xs) (suc k) a low e = from xs k a (omega (arith, low)) e
