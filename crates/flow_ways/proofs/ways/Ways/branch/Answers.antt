use Rattle.std.proofs.Common.{◌&&◌, ◌||◌, ap, ◌∙◌}
use Rattle.flow_ways.proofs.WayLemmas.{sides}
use Rattle.flow_ways.proofs.ways.Ways.branch.Goals as goal

pub part-requires-clause-sides : goal.part-requires-clause-sides
part-requires-clause-sides c = record {
  holds = λ choice v r.
      (let r2 = c.in_ok-misses.ensures.grown.runs choice v r in
      let r1 = c.in_ok-fails.ensures.grown.runs choice v r2 in
      let r0 = c.in_ok-hits.ensures.grown.runs choice v r1 in
      ap (λ b. b || v c.in_ok-misses.misses.at) (c.in_ok-hits.ensures.ok.value choice v r1)
      ∙ (ap (λ b. (v c.args.gate.at && v c.args.test.at) || b) (c.in_ok-misses.ensures.ok.value choice v r ∙ ap (λ b. v c.args.gate.at && b) (c.in_ok-fails.ensures.ok.value choice v r2))
      ∙ (sides (v c.args.gate.at) (v c.args.test.at) ∙ c.requires.gate.value choice v r0)));
}
