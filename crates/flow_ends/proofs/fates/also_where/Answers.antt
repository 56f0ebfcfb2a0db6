use Rattle.std.proofs.Common.{◌&&◌, ◌||◌, ap, ◌∙◌}
use Rattle.gate_runs.specs.Stands.{told}
use Rattle.flow_ends.proofs.Telling.{put_at}
use Rattle.flow_ends.proofs.fates.also_where.Goals as goal

pub returns-clause-ok : goal.returns-clause-ok
returns-clause-ok c = record {
  holds = λ choice v r l.
      (let r0 = c.in_ok-either.ensures.grown.runs choice v r in
      c.set_gate.ensures.told v l
      ∙ put_at (told v c.args.gates.now) c.args.k l (v c.in_ok-either.either.at) (v c.args.now.at && v c.args.so.at)
      (c.in_ok-either.ensures.ok.value choice v r ∙ (ap (λ b. b || v c.in_ok-both.both.at) (c.gate_in.ensures.told v)
      ∙ ap (λ b. told v c.args.gates.now c.args.k || b) (c.in_ok-both.ensures.ok.value choice v r0))));
}
