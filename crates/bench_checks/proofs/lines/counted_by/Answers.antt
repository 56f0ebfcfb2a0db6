use Rattle.std.proofs.Common.{map}
use Rattle.std.specs.Arc.{arc_value}
use Rattle.std.proofs.lemmas.Result.{IfOk-weaker}
use Rattle.bench_checks.proofs.Programs.{has_whole_machine, lines_are}
use Rattle.bench_checks.proofs.lines.counted_by.Goals as goal

pub invariant_of-work : goal.invariant_of-work
invariant_of-work g c = record {
  planned = c.requires.generated.2.planned.plan;
  whole =
      has_whole_machine c.requires.generated.0 c.requires.generated.1 c.args.program.now c.args.plan.now c.whole_machines.ensures.lock c.requires.generated.2;
}

pub returns : goal.returns
returns g c =
    IfOk-weaker c.lines_of.result _ _
    (λ t is. lines_are c.args.program.now (map arc_value c.in_ok-verdicts.verdicts.list.items) t.items c.in_ok-verdicts.ensures is)
    c.lines_of.ensures
