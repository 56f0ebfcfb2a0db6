-- Which functions are spared, where the verdicts of some alone are needed.
use Rattle.std.specs.Prelude.{◌≡◌, ℕ, Bool, false, not, ◌||◌, List, if◌then◌else◌, slice_index_or}
use Rattle.std.specs.List.{list_any}
use Rattle.plan_core.specs.Graph.{callees}
use Rattle.sum_rows.specs.declared.report.Verdict.{Verdict}
use Rattle.sc_typed.specs.declared.program.Program.{Program}
use Rattle.program_verdicts.specs.Verdicts.{no_verdict, verdict_in}

abbrev pub is_spared : (spared : List Bool) → ℕ → Bool
is_spared spared f = slice_index_or spared f false

-- none of these functions is spared
abbrev pub AreNeeded : (spared : List Bool) → (functions : List ℕ) → Type 0
AreNeeded spared functions = list_any (is_spared spared) functions ≡ false

-- whether a function is spared, or none of its kept callees is
abbrev pub is_met : (rows : List (List ℕ)) → (spared : List Bool) → ℕ → Bool
is_met rows spared f = is_spared spared f || not (list_any (is_spared spared) (callees rows f))

-- the kept callees of a function that is not spared are not spared either
abbrev pub IsClosed : (rows : List (List ℕ)) → (spared : List Bool) → Type 0
IsClosed rows spared = (f : ℕ) → is_spared spared f ≡ false → AreNeeded spared (callees rows f)

-- the verdict of a function; of one that is spared there is none
abbrev pub verdict_unless_spared : Program → (depth reach : ℕ) → (spared : List Bool) → ℕ → Verdict
verdict_unless_spared p depth reach spared f = if is_spared spared f then no_verdict else verdict_in p depth reach f

-- the verdict at a place; none behind the last one
abbrev pub verdict_at : List Verdict → ℕ → Verdict
verdict_at vs f = slice_index_or vs f no_verdict
