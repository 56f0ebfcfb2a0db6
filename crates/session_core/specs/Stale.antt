-- Which functions must be analysed anew. A function is stale where no verdict of it is kept, or its matter is not the
-- kept one, or the verdict of a kept callee is not the one that was used.
use Rattle.std.specs.Prelude.{◌≡◌, ℕ, ◌+◌, List, [], ◌∷◌, ◌++◌, Option, Some, None, length, map, option_map, slice_index_or}
use Rattle.std.specs.Arc.{arc_value}
use Rattle.std.specs.Option.{option_copied}
use Rattle.sc_base.specs.declared.skip.Skip.TheVariants as skip
use Rattle.sc_base.specs.declared.skip.LimitKind.TheVariants as limit
use Rattle.sum_rows.specs.declared.report.Verdict.{Verdict}
use Rattle.sum_rows.specs.declared.report.Verdict.TheVariants as verdict
use Rattle.plan_core.specs.Graph.{callees}
use Rattle.session_core.specs.declared.kept.Kept.{Kept}
use denote.Ref.{Bor}

-- What is kept of a function: its matter, the verdicts of its kept callees, and the verdict that was made of them.
pub record Memory : Type 0 where
  pub matter : List ℕ
  pub used : List Verdict
  pub verdict : Verdict

abbrev pub memory : Kept → Memory
memory k = record { matter = k.matter.words; used = map arc_value k.used.items; verdict = arc_value k.verdict }

abbrev pub kept_if : Option (Bor Kept) → Option Memory
kept_if kept = option_map memory (option_copied kept)

-- The verdict may be used again: the matter and the verdicts of the callees are those that it was made of.
abbrev pub IsUsable : (now : List ℕ) → Option Memory → (rows : List Verdict) → Type 0
IsUsable now None rows = ⊥
IsUsable now (Some k) rows = (now ≡ k.matter) × (rows ≡ k.used)

abbrev pub IsStale : (now : List ℕ) → Option Memory → (rows : List Verdict) → Type 0
IsStale now kept rows = ¬ IsUsable now kept rows

-- what stands for the verdict of a function that there is not
abbrev pub no_verdict : Verdict
no_verdict = verdict.Skipped (skip.Limit limit.Functions 0)

-- the verdicts of these functions, in their order
abbrev pub rows_of : (functions : List ℕ) → (verdicts : List Verdict) → List Verdict
rows_of fs vs = map (λ f. slice_index_or vs f no_verdict) fs

-- whether the function with that number is stale, where these are the matters, what is kept, and the verdicts of all
abbrev pub StaleAt : (rows : List (List ℕ)) → (now : List (List ℕ)) → (kept : List (Option Memory)) → List Verdict → ℕ → Type 0
StaleAt rows now kept vs f = IsStale (slice_index_or now f []) (slice_index_or kept f None) (rows_of (callees rows f) vs)

-- The stale ones among the first n functions, ascending: each function in its turn is listed where it is stale, and left
-- out where it is not.
pub data AreStale (rows : List (List ℕ)) (now : List (List ℕ)) (kept : List (Option Memory)) (vs : List Verdict) : ℕ → List ℕ → Type 0 where
  none : AreStale rows now kept vs 0 []
  listed : (f : ℕ) (fs : List ℕ) → AreStale rows now kept vs f fs → StaleAt rows now kept vs f → AreStale rows now kept vs (f + 1) (fs ++ f ∷ [])
  left_out : (f : ℕ) (fs : List ℕ) → AreStale rows now kept vs f fs → ¬ StaleAt rows now kept vs f → AreStale rows now kept vs (f + 1) fs

-- the lists have one entry for each function of the plan
pub record AreAsMany (rows : List (List ℕ)) (matters kept verdicts : ℕ) : Type 0 where
  pub matters_many : matters ≡ length rows
  pub kept_many : kept ≡ length rows
  pub verdicts_many : verdicts ≡ length rows
