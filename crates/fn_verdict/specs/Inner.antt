-- Errors at locations that the caller does not know, one for each text.
use Rattle.std.specs.Prelude.{ℕ, List, [], ◌∷◌, ◌++◌, bytes_eq, length, if◌then◌else◌}
use Rattle.std.specs.List.{list_any, flat_map, range_with_len}
use Rattle.sum_rows.specs.declared.report.Report.{Report}
use Rattle.sum_rows.specs.declared.report.Report.TheVariants as report
use Rattle.sc_world.specs.Paths.{Texts, text_at}
use Rattle.sc_world.specs.Shows.{EndsAt, Errs}
use Rattle.sc_world.specs.Verdict.{Answers}

abbrev pub with_text : List ℕ → List (List ℕ) → List (List ℕ)
with_text t ts = if list_any (bytes_eq t) ts then ts else ts ++ t ∷ []

abbrev pub with_ending : Texts → Answers → ℕ → List (List ℕ) → List (List ℕ)
with_ending x q at ts = if q.some (EndsAt at) then with_text (text_at x at) ts else ts

-- the texts of the locations at which some run ends, each once
abbrev pub endings : Texts → Answers → List (List ℕ) → List ℕ → List (List ℕ)
endings x q ts [] = ts
endings x q ts (at ∷ ats) = endings x q (with_ending x q at ts) ats

abbrev pub inner : Answers → List ℕ → List Report
inner q t = report.Inner (q.shown (Errs t)) ∷ []

abbrev pub inners : Texts → Answers → List Report
inners x q = flat_map (inner q) (endings x q [] (range_with_len 0 (length x.layout.locations)))
