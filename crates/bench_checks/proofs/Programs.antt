-- Of a generated program: its machine of states, and its lines.
use Rattle.std.proofs.Common.{◌≡◌, ◌∙◌, ℕ, List, Option, sym, subst, ap}
use Rattle.fsm_spec.specs.declared.table.MachineSpec.{MachineSpec}
use Rattle.fsm_spec.specs.Table.{IsWhole}
use Rattle.fsm_spec.specs.Lock.{locks}
use Rattle.sc_world.specs.Programs.{machine_or_locks}
use Rattle.sc_typed.specs.declared.program.Program.{Program}
use Rattle.sum_rows.specs.declared.report.Verdict.{Verdict}
use Rattle.plan_core.specs.declared.plan.Plan.{Plan}
use Rattle.program_verdicts.specs.Verdicts.{verdicts}
use Rattle.whole_checks.specs.Said.{HasWholeMachine}
use Rattle.whole_checks.proofs.Machines.{machine_stays}
use Rattle.check_counts.specs.Counts.{counts_of, counts_text}
use Rattle.bench_checks.specs.Bench.{sources_of, IsGenerated, counts_lines}

-- its machine is that of locks, which is whole
pub has_whole_machine : (count seed : ℕ) (p : Program) (plan : Plan) → IsWhole locks → IsGenerated count seed p plan
    → HasWholeMachine p.machine
has_whole_machine count seed p plan whole is =
    let P : Option MachineSpec → Type 0 = λ m. IsWhole (machine_or_locks m) in
    subst P (sym (machine_stays (sources_of is.input) p is.planned.typed)) whole

-- the lines of its verdicts are its lines
pub lines_are : (p : Program) (vs : List Verdict) (lines : List ℕ) → vs ≡ verdicts p 2 2 → lines ≡ counts_text (counts_of vs)
    → lines ≡ counts_lines p
unfolding counts_lines
lines_are p vs lines made is = is ∙ ap (λ (xs : List Verdict). counts_text (counts_of xs)) made
