use Rattle.std.proofs.Common.{◌&&◌, ap, ◌∙◌}
use Rattle.gate_runs.specs.Stands.{told}
use Rattle.flow_keeps.proofs.Told.{and_true}
use Rattle.flow_keeps.proofs.reads.and_sure.Goals as goal

pub returns-clause-ok : goal.returns-clause-ok
returns-clause-ok c = record {
  below = c.in_ok-both.ensures.ok.below;
  value = λ choice v r.
      (let t = c.args.temps.now.sure.items in
      c.in_ok-both.ensures.ok.value choice v r
      ∙ ap (λ b. v c.args.gate.at && b) (c.gate_or_never-sure.ensures.value choice v (c.in_ok-both.ensures.grown.runs choice v r)
      ∙ (ap (λ gs. told v gs c.args.temp) c.as_slice.ensures.value ∙ and_true (told v t c.args.temp))));
}
