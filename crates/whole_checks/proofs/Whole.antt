-- Of a typed program with a plan the text of its verdicts is said.
use Rattle.std.proofs.Common.{◌≡◌, ◌∙◌, ℕ, Bool, List, refl, sym, subst, ap}
use Rattle.std.specs.Prelude.{if◌then◌else◌}
use Rattle.sc_base.specs.declared.skip.LimitKind.TheVariants as limit
use Rattle.sum_rows.specs.declared.report.Verdict.{Verdict}
use Rattle.plan_core.specs.declared.plan.Plan.{Plan}
use Rattle.sc_typed.specs.declared.program.Program.{Program}
use Rattle.sc_check.specs.Typed.{Sources, Answer}
use Rattle.program_plan.specs.Planned.{edges_of}
use Rattle.program_verdicts.specs.Verdicts.{verdicts}
use Rattle.whole_checks.specs.Said.{Said, Beyond, said, said_of, said_with}
use Rattle.whole_checks.specs.Planned.{IsPlanned}

pub whole_is_said : (s : Sources) (p : Program) (plan : Plan) (depth reach : ℕ) (vs : List Verdict) → IsPlanned s p plan
    → vs ≡ verdicts p depth reach → said_with p vs ≡ said s depth reach
unfolding said
whole_is_said s p plan depth reach vs is made =
    let text : Said = said_with p (verdicts p depth reach) in
    let P : Answer → Type 0 = λ a. text ≡ said_of s depth reach a in
    let Q : Bool → Type 0 = λ b. text ≡ (if b then text else Beyond limit.Edges (edges_of p)) in
    ap (said_with p) made ∙ subst P (sym is.typed) (subst Q (sym is.edges) refl)
