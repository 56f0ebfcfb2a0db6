use Rattle.std.proofs.Common.{◌∙◌, Option, Some, None, sym, subst}
use Rattle.std.proofs.lemmas.Result.{IfOk-weaker}
use Rattle.fsm_spec.specs.declared.table.MachineSpec.{MachineSpec}
use Rattle.fsm_spec.specs.Table.{IsWhole}
use Rattle.fn_replay.specs.Seen.{form_of}
use Rattle.sc_world.specs.Programs.{machine_or_locks}
use Rattle.whole_checks.specs.Planned.{IsPlanned}
use Rattle.whole_checks.specs.Seen as seen_of
use Rattle.whole_checks.proofs.Machines.{machine_stays}
use Rattle.whole_replays.proofs.Tells.{run_is_told}
use Rattle.whole_replays.proofs.telling.tell.Goals as goal

pub of_function-requires-clause-whole : goal.of_function-requires-clause-whole
of_function-requires-clause-whole c =
    let planned : IsPlanned (seen_of.sources c.args.sources) c.in-Ok.planned.0 c.in-Ok.planned.1 = c.in-Ok.ensures.made in
    let P : Option MachineSpec → Type 0 = λ m. IsWhole (machine_or_locks m) in
    subst P (sym (machine_stays (seen_of.sources c.args.sources) c.in-Ok.planned.0 planned.typed)) c.requires.whole

pub returns-in-Some : goal.returns-in-Some
returns-in-Some c =
    IfOk-weaker c.of_function.result _ _
    (λ t is.
    is
    ∙ run_is_told (form_of c.args.asked.form) (seen_of.sources c.args.sources) c.args.asked.depth c.args.asked.reach c.args.asked.name.now c.args.asked.digits.now c.in-Ok.planned.0
    c.in-Ok.planned.1 (Some c.in-Some.function) c.in-Ok.ensures.made (sym c.in-Some.is ∙ c.function_named.ensures.first))
    c.of_function.ensures

pub returns : goal.returns
returns c =
    run_is_told (form_of c.args.asked.form) (seen_of.sources c.args.sources) c.args.asked.depth c.args.asked.reach c.args.asked.name.now c.args.asked.digits.now c.in-Ok.planned.0
    c.in-Ok.planned.1 None c.in-Ok.ensures.made (sym c.in-None.is ∙ c.function_named.ensures.first)

pub returns-in-Err : goal.returns-in-Err
returns-in-Err c =
    IfOk-weaker c.without_plan.result _ _
    (λ t is. is (form_of c.args.asked.form) (seen_of.sources c.args.sources) c.args.asked.depth c.args.asked.reach c.args.asked.name.now c.args.asked.digits.now c.in-Err.ensures.said)
    c.without_plan.ensures
