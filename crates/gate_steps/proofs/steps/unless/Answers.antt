use Rattle.std.proofs.Common.{◌∙◌, ap, not}
use Rattle.gate_steps.proofs.Known.{does_unless}
use Rattle.gate_steps.proofs.steps.unless.Goals as goal

pub returns-clause-ok : goal.returns-clause-ok
returns-clause-ok c =
    record {
      does = λ choice v runs l b is.
          does_unless v l c.args.ends.now c.end_where.new.self b c.args.reason
          (c.in_ok-end_where.ensures.ok.does choice v runs l (λ w. not b)
          (λ w met. c.in_ok-fails.ensures.ok.value choice v (c.in_ok-end_where.ensures.grown.runs choice v runs) ∙ ap not is));
    }
