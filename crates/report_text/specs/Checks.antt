-- The text of a whole check: the notes, the functions with their verdicts, and a line of totals.
use Rattle.std.specs.Prelude.{ℕ, ◌+◌, List, [], ◌∷◌, ◌++◌, length, sum_by, codes, decimal}
use Rattle.std.specs.List.{flat_map}
use Rattle.sum_rows.specs.declared.row.ItemRows.{ItemRows}
use Rattle.sum_rows.specs.declared.report.Verdict.{Verdict}
use Rattle.sum_rows.specs.declared.report.Verdict.TheVariants as verdict
use Rattle.sc_typed.specs.declared.program.Program.{Program}
use Rattle.sc_typed.specs.declared.program.Function.{Function}
use Rattle.report_text.specs.Reasons.{note_text}
use Rattle.report_text.specs.Functions.{function_text}

-- What is counted of a verdict.
abbrev pub skipped_in : Verdict → ℕ
skipped_in (verdict.Skipped s) = 1
skipped_in (verdict.Done s reports) = 0

abbrev pub rows_in : Verdict → ℕ
rows_in (verdict.Skipped s) = 0
rows_in (verdict.Done s reports) = sum_by (λ (x : ItemRows). length x.rows) s.items

abbrev pub reports_in : Verdict → ℕ
reports_in (verdict.Skipped s) = 0
reports_in (verdict.Done s reports) = length reports

unfoldable pub counted : (word : List ℕ) → ℕ → List ℕ
counted word n = word ++ decimal n

unfoldable pub total_line : (functions skipped rows reports : ℕ) → List ℕ
total_line functions skipped rows reports =
    counted (codes "total functions ") functions
    ++ (counted (codes " skipped ") skipped ++ (counted (codes " rows ") rows ++ (counted (codes " reports ") reports ++ codes "\n")))

abbrev pub totals : List Verdict → List ℕ
totals vs = total_line (length vs) (sum_by skipped_in vs) (sum_by rows_in vs) (sum_by reports_in vs)

-- each function with its verdict
abbrev pub functions_text : Program → List Function → List Verdict → List ℕ
functions_text p [] vs = []
functions_text p (f ∷ fs) [] = []
functions_text p (f ∷ fs) (v ∷ vs) = function_text p f v ++ functions_text p fs vs

-- the whole text; there is one verdict for each function
abbrev pub text : Program → List Verdict → List ℕ
text p vs = flat_map (note_text p) p.notes ++ (functions_text p p.functions vs ++ totals vs)
