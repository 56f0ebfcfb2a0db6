-- Without reports nothing tells what choices say.
use Rattle.std.proofs.Common.{◌≡◌, suc, true, nat_eq, List, [], ◌∷◌, length, refl, arith}
use Rattle.std.proofs.lemmas.Bool.{eqb-true}
use Rattle.line_marks.specs.declared.marks.Mark.{Mark}
use Rattle.sc_typed.specs.declared.program.Function.{Function}
use Rattle.sc_typed.specs.declared.program.Program.{Program}
use Rattle.sum_rows.specs.declared.report.Report.{Report}
use Rattle.verdict_json.specs.Functions.{reports_value}
use Rattle.verdict_json.specs.Tellings.{Says}
use Rattle.json_places.specs.Arrays.{array_by}

pub none_told : (p : Program) (marks : List (List Mark)) (a b : Says) (f : Function) (reports : List Report) → nat_eq (length reports) 0 ≡ true
    → reports_value p marks a f reports ≡ reports_value p marks b f reports
unfolding array_by
none_told p marks a b f [] none = refl
none_told p marks a b f (r ∷ rs) none = absurd (omega (arith, eqb-true (suc (length rs)) 0 none))
