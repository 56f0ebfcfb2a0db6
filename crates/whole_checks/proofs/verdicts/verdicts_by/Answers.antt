use denote.Param.Send.{sendable}
use Rattle.std.proofs.Crossing.{crosses}
use Rattle.std.proofs.Common.{◌≡◌, refl, sym, subst, length, map}
use Rattle.std.specs.Arc.{arc_value}
use Rattle.plan_core.specs.declared.plan.Plan.{Plan}
use Rattle.plan_core.specs.Graph.{IsPlan}
use Rattle.program_verdicts.specs.Verdicts.{verdict_in}
use Rattle.work_pool.specs.Outputs.{outputs_of}
use Rattle.whole_checks.proofs.Plans.{plan_is_plan, outputs_are_verdicts}
use Rattle.whole_checks.proofs.Shared.{program_sync, plan_sync}
use Rattle.whole_checks.proofs.verdicts.verdicts_by.Goals as goal

pub run_all-requires-sync-W : goal.run_all-requires-sync-W
run_all-requires-sync-W g c κs within = search (sendable, crosses, program_sync, plan_sync) depth 60 fits 20000

pub run_all-requires-clause-plan : goal.run_all-requires-clause-plan
run_all-requires-clause-plan g c κs within =
    let P : Plan → Type 0 = λ p. IsPlan p.callees in
    (subst P (sym c.args.work.now.planned) (plan_is_plan c.no_cycle.ensures c.args.work.now.program.now c.requires.few), refl)

pub returns : goal.returns
returns g c =
    let work = c.args.work.now in
    let P : Plan → Type 0 =
    λ p. map arc_value c.in_ok-ran.ran.rows.list.items ≡ outputs_of (verdict_in work.program.now work.depth work.reach) (length p.callees) in
    outputs_are_verdicts work.program.now work.depth work.reach _ (subst P work.planned c.in_ok-ran.ensures.rows)
