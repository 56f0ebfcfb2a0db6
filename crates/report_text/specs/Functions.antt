-- The text of one function: where it stands, and why it is skipped, or its summary and its reports.
use Rattle.std.specs.Prelude.{ℕ, nat_lt, ◌&&◌, List, [], ◌∷◌, ◌++◌, filter, take, codes, if◌then◌else◌}
use Rattle.std.specs.List.{flat_map}
use Rattle.sum_rows.specs.declared.row.Summary.{Summary}
use Rattle.sum_rows.specs.declared.row.Write.{Write}
use Rattle.sum_rows.specs.declared.report.Report.{Report}
use Rattle.sum_rows.specs.declared.report.Verdict.{Verdict}
use Rattle.sum_rows.specs.declared.report.Verdict.TheVariants as verdict
use Rattle.sc_base.specs.declared.skip.Skip.{Skip}
use Rattle.sc_typed.specs.declared.program.Program.{Program}
use Rattle.sc_typed.specs.declared.program.Param.{Param}
use Rattle.sc_typed.specs.declared.program.Function.{Function}
use Rattle.sc_typed.specs.Types.{is_scalar}
use Rattle.report_text.specs.Names.{name_text, place_in_file}
use Rattle.report_text.specs.Paths.{path_text}
use Rattle.report_text.specs.Reasons.{reason_text}
use Rattle.report_text.specs.Rows.{item_text}
use Rattle.report_text.specs.Reports.{report_text}

-- the parameters of the entry bits: the first three that are integers or pointers
abbrev pub entry_params : List Param → List Param
entry_params params = take 3 (filter (λ (q : Param). is_scalar q.ctype) params)

-- a parameter, if fewer than three stand before it that are listed, and it is an integer or a pointer
abbrev pub entry_if : (before : ℕ) → Param → List Param
entry_if n q = if nat_lt n 3 && is_scalar q.ctype then q ∷ [] else []

abbrev pub spaced_name : Program → Param → List ℕ
spaced_name p q = codes " " ++ name_text p q.name

-- their names, each behind a space; ` -` where there is none
abbrev pub names_text : Program → List Param → List ℕ
names_text p [] = codes " -"
names_text p (q ∷ qs) = flat_map (spaced_name p) (q ∷ qs)

abbrev pub entry_line : Program → List Param → List ℕ
entry_line p params = codes "  entry" ++ (names_text p (entry_params params) ++ codes "\n")

unfoldable pub write_line : Program → List Param → Write → List ℕ
write_line p params w = codes "  writes " ++ (path_text p params w.path ++ codes "\n")

abbrev pub summary_text : Program → List Param → Summary → List ℕ
summary_text p params s =
    entry_line p params ++ (flat_map (item_text p params s.bits) s.items ++ flat_map (write_line p params) s.writes)

unfoldable pub function_line : Program → Function → List ℕ
function_line p f = codes "function " ++ (name_text p f.name ++ (codes " at " ++ (place_in_file p f.pos ++ codes "\n")))

unfoldable pub skipped_line : Skip → List ℕ
skipped_line s = codes "  skipped " ++ (reason_text s ++ codes "\n")

abbrev pub verdict_text : Program → Function → Verdict → List ℕ
verdict_text p f (verdict.Skipped s) = skipped_line s
verdict_text p f (verdict.Done s reports) = summary_text p f.params s ++ flat_map (report_text p f.params) reports

unfoldable pub function_text : Program → Function → Verdict → List ℕ
function_text p f v = function_line p f ++ verdict_text p f v
