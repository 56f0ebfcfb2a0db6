-- The plan of a call graph. A graph is a list with a row for each function, in program order: the
-- numbers of the functions that it calls. An edge from f to g is cut exactly where g reaches f and
-- g stands at or before f; reaching is by walks, and each function reaches itself.

use Rattle.std.specs.Prelude.{◌≡◌, ℕ, zero, suc, ◌^◌, ◌<◌, ◌≤◌, ◌==◌, nat_eq, nat_le, Bool, ◌||◌, ◌&&◌, not, List, [], length, map, filter, slice_index_or, Contains, ◌⊎◌}
use Rattle.std.specs.List.{list_any, flat_map, range_with_len}
use Rattle.std.specs.List.Sorted.{IsStrictlyIncreasing}
use Rattle.plan_core.specs.declared.plan.Edge.{Edge}
use Rattle.plan_core.specs.declared.plan.Plan.{Plan}

-- the row of f: the functions that it calls; none outside the graph
abbrev pub callees : List (List ℕ) → ℕ → List ℕ
callees rows f = slice_index_or rows f []

-- whether f calls g
abbrev pub calls : List (List ℕ) → ℕ → ℕ → Bool
calls rows f g = list_any (nat_eq g) (callees rows f)

-- a walk from f to g: one call, or several one after another
pub data Walk (rows : List (List ℕ)) : ℕ → ℕ → Type 0 where
  one : (f g : ℕ) → Contains (callees rows f) g → Walk rows f g
  more : (f g h : ℕ) → Walk rows f g → Contains (callees rows g) h → Walk rows f h

-- f reaches g: by a walk, or because it is g
abbrev pub Reaches : List (List ℕ) → ℕ → ℕ → Type 0
Reaches rows f g = (f ≡ g) ⊎ Walk rows f g

-- the edge from f to g is cut: it lies on a cycle and does not lead forward
pub record IsCut (rows : List (List ℕ)) (f g : ℕ) : Type 0 where
  pub back : Reaches rows g f
  pub not_forward : g ≤ f

-- whether f is g, calls g, or reaches g by a walk on which all functions between stand before k
unfoldable pub reaches_before : List (List ℕ) → ℕ → ℕ → ℕ → Bool
reaches_before rows zero f g = (f == g) || calls rows f g
reaches_before rows (suc k) f g =
    reaches_before rows k f g || (reaches_before rows k f k && reaches_before rows k k g)

-- whether f reaches g; that this is `Reaches` is a law
abbrev pub reaches : List (List ℕ) → ℕ → ℕ → Bool
reaches rows f g = reaches_before rows (length rows) f g

-- whether the edge from f to g is cut; that this is `IsCut` is a law
abbrev pub is_cut : List (List ℕ) → ℕ → ℕ → Bool
is_cut rows f g = reaches rows g f && nat_le g f

-- the functions in program order
abbrev pub functions : List (List ℕ) → List ℕ
functions rows = range_with_len 0 (length rows)

-- the callees of f that it keeps, ascending
abbrev pub kept_callees : List (List ℕ) → ℕ → List ℕ
kept_callees rows f = filter (λ g. calls rows f g && not (is_cut rows f g)) (functions rows)

-- the callees of f to which its edge is cut, ascending
abbrev pub cut_callees : List (List ℕ) → ℕ → List ℕ
cut_callees rows f = filter (λ g. calls rows f g && is_cut rows f g) (functions rows)

-- the cut edges of f, ascending
abbrev pub cut_edges : List (List ℕ) → ℕ → List Edge
cut_edges rows f = map (λ g. record { caller = f; callee = g }) (cut_callees rows f)

-- the plan of a call graph
abbrev pub plan_of : List (List ℕ) → Plan
plan_of rows =
    record {
      callees = map (kept_callees rows) (functions rows);
      cut = flat_map (cut_edges rows) (functions rows);
    }

-- a call graph: its functions have numbers of 32 bits, and each function that is called is one of them
pub record IsGraph (rows : List (List ℕ)) : Type 0 where
  pub few : length rows < 2 ^ 32
  pub inside : (f g : ℕ) → Contains (callees rows f) g → g < length rows

-- the rows of kept callees of a plan: ascending, each once, with no cycle
pub record IsPlan (rows : List (List ℕ)) : Type 0 where
  pub few : length rows < 2 ^ 32
  pub rising : (f : ℕ) → IsStrictlyIncreasing (callees rows f)
  pub inside : (f g : ℕ) → Contains (callees rows f) g → g < length rows
  pub acyclic : (f : ℕ) → ¬ Walk rows f f
