-- Reports: a line, and then the runs that show it.
use Rattle.std.specs.Prelude.{ℕ, List, ◌++◌, codes}
use Rattle.std.specs.List.{flat_map}
use Rattle.sum_rows.specs.declared.report.Report.{Report}
use Rattle.sum_rows.specs.declared.report.Report.TheVariants as report
use Rattle.sc_typed.specs.declared.program.Program.{Program}
use Rattle.sc_typed.specs.declared.program.Param.{Param}
use Rattle.sc_world.specs.Paths.{place_text}
use Rattle.report_text.specs.Paths.{path_text}
use Rattle.report_text.specs.Shown.{shown_text}

unfoldable pub report_line : (kind subject : List ℕ) → List ℕ
report_line kind subject = codes "  report " ++ (kind ++ (codes " " ++ (subject ++ codes "\n")))

abbrev pub report_text : Program → List Param → Report → List ℕ
report_text p params (report.Double x runs) = report_line (codes "double") (path_text p params x) ++ flat_map (shown_text p) runs
report_text p params (report.Ambiguous x a b) =
    report_line (codes "ambiguous") (path_text p params x) ++ (shown_text p a ++ shown_text p b)
report_text p params (report.Inner a) = report_line (codes "inner") a.text ++ shown_text p a
report_text p params (report.Leak at a) = report_line (codes "leak") (place_text at) ++ shown_text p a
