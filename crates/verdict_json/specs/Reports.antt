-- Reports, each with the runs that show it.
use Rattle.std.specs.Prelude.{ℕ, List, [], ◌∷◌, codes}
use Rattle.sc_base.specs.declared.pos.Pos.{Pos}
use Rattle.json.specs.Json.{Json, string, object, Members, no_members}
use Rattle.json_text.specs.Values.{with}
use Rattle.line_marks.specs.declared.marks.Mark.{Mark}
use Rattle.sum_rows.specs.declared.path.Path.{Path}
use Rattle.sum_rows.specs.declared.report.Report.{Report}
use Rattle.sum_rows.specs.declared.report.Report.TheVariants as report
use Rattle.sum_rows.specs.declared.report.Shown.{Shown}
use Rattle.sc_typed.specs.declared.program.Program.{Program}
use Rattle.sc_typed.specs.declared.program.Param.{Param}
use Rattle.json_places.specs.Arrays.{array_by}
use Rattle.json_places.specs.Places.{place_value}
use Rattle.json_places.specs.Paths.{path_value}
use Rattle.verdict_json.specs.Tellings.{Says}
use Rattle.verdict_json.specs.Runs.{run_value}

-- of a function in the file with that number, whose choices say this
module _ (p : Program) (marks : List (List Mark)) (says : Says) (file : ℕ) where
  abbrev pub runs_value : List Shown → Json
  runs_value runs = array_by (run_value p marks file says) runs

  -- an error at a location that the caller does not know: that of the run
  unfoldable pub inner_report : Shown → Json
  inner_report run = object (with (codes "kind") (string (codes "inner")) (with (codes "runs") (runs_value (run ∷ [])) no_members))

  -- an object of the call at a place is lost
  unfoldable pub leak_report : Pos → Shown → Json
  leak_report at run =
      object (with (codes "kind") (string (codes "leak"))
      (with (codes "place") (place_value p marks at) (with (codes "runs") (runs_value (run ∷ [])) no_members)))

-- the same, of a function with these parameters
module _ (p : Program) (marks : List (List Mark)) (says : Says) (file : ℕ) (params : List Param) where
  -- what several runs show of a location
  unfoldable pub location_report : (kind : List ℕ) → Path → List Shown → Json
  location_report kind x runs =
      object (with (codes "kind") (string kind)
      (with (codes "path") (path_value p params x) (with (codes "runs") (runs_value p marks says file runs) no_members)))

  abbrev pub report_value : Report → Json
  report_value (report.Double x runs) = location_report (codes "double") x runs
  report_value (report.Ambiguous x a b) = location_report (codes "ambiguous") x (a ∷ b ∷ [])
  report_value (report.Inner run) = inner_report p marks says file run
  report_value (report.Leak at run) = leak_report p marks says file at run
