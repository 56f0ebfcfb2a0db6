-- What the choices of a function say, by its kept callees and copies of their verdicts.
use Rattle.std.proofs.Common.{◌≡◌, ◌∙◌, ℕ, List, map, ap}
use Rattle.line_marks.specs.declared.marks.Mark.{Mark}
use Rattle.plan_core.specs.Graph.{callees}
use Rattle.program_verdicts.specs.Verdicts.{texts}
use Rattle.sc_typed.specs.declared.program.Function.{Function}
use Rattle.sc_typed.specs.declared.program.Program.{Program}
use Rattle.sc_world.specs.Places.{places}
use Rattle.sc_world.specs.Programs.{source}
use Rattle.sum_rows.specs.declared.report.Report.{Report}
use Rattle.sum_rows.specs.declared.report.Verdict.{Verdict}
use Rattle.json.specs.Json.{Json}
use Rattle.verdict_json.specs.Functions.{reports_value}
use Rattle.verdict_json.specs.Tellings.{says_by, says_of, verdict_at}

module _ (p : Program) (marks : List (List Mark)) (depth reach n : ℕ) (f : Function) (reports : List Report) where
  abbrev with_callees : List ℕ → List Verdict → Json
  with_callees kept vs =
      reports_value p marks
      (says_by p marks (source p n kept vs depth reach) (texts p f) (places (source p n kept vs depth reach)))
      f reports

  pub told_among : (rows : List (List ℕ)) (all : List Verdict) (kept : List ℕ) (vs : List Verdict) → kept ≡ callees rows n
      → vs ≡ map (verdict_at all) kept
      → with_callees kept vs ≡ reports_value p marks (says_of p marks depth reach rows all n f) f reports
  unfolding says_of
  told_among rows all kept vs here made =
      ap (with_callees kept) made ∙ ap (λ (ks : List ℕ). with_callees ks (map (verdict_at all) ks)) here
