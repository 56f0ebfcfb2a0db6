use Rattle.std.proofs.Common.{◌≡◌, refl, sym, subst, IfOk, length, map}
use Rattle.std.specs.Arc.{arc_value}
use Rattle.std.proofs.lemmas.Result.{IfOk-weaker}
use Rattle.plan_core.specs.declared.plan.Plan.{Plan}
use Rattle.plan_core.specs.Graph.{IsPlan}
use Rattle.program_verdicts.specs.Verdicts.{verdict_in}
use Rattle.work_pool.specs.Outputs.{outputs_of}
use Rattle.whole_checks.proofs.Plans.{plan_is_plan, outputs_are_verdicts}
use Rattle.whole_checks.proofs.verdicts.verdicts_alone.Goals as goal

pub run_alone-requires-after_bounds : goal.run_alone-requires-after_bounds
run_alone-requires-after_bounds c κs =
    let P : Plan → Type 0 = λ p. IsPlan p.callees in
    (subst P (sym c.args.work.now.planned) (plan_is_plan c.no_cycle.ensures c.args.work.now.program.now c.requires.few), refl)

pub returns : goal.returns
returns c =
    let work = c.args.work.now in
    let P : Plan → Type 0 =
    λ p. IfOk c.run_alone.result (λ vs. map arc_value vs.list.items ≡ outputs_of (verdict_in work.program.now work.depth work.reach) (length p.callees)) in
    IfOk-weaker c.run_alone.result _ _
    (λ vs made. outputs_are_verdicts work.program.now work.depth work.reach (map arc_value vs.list.items) made)
    (subst P work.planned c.run_alone.ensures)
