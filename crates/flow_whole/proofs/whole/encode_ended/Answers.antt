use Rattle.std.proofs.Common.{ap, sym, ◌∙◌, arith}
use Rattle.flow_turns.proofs.Past.{grown_both}
use Rattle.flow_gates.specs.Graph.{nodes_of}
use Rattle.flow_gates.proofs.Stepping.{grown_same, small_grown}
use Rattle.flow_exits.specs.Exits.{flow_in_gates}
use Rattle.flow_whole.proofs.Beginning.{fit_of, can_begin, are_runs, at_end}
use Rattle.flow_whole.proofs.whole.encode_ended.Goals as goal

pub loop-at-init : goal.loop-at-init
loop-at-init g c =
    let s = g.S.Steps.source c.args.graph.now.steps.now in
    let p = g.S.Steps.layout c.args.graph.now.steps.now in
    let f = c.args.graph.now.flow.now in
    let can = c.requires.can in
    record {
      grown = grown_same;
      gates = c.in_ok-before.ensures.gates;
      before = c.in_ok-before.ensures.ok.at s p can.types.kinds (nodes_of s f) (fit_of s p f can c.requires.unrolled c.there_is_no_cycle.ensures c.nodes_are_fine.ensures c.nodes_stay.ensures)
          (can_begin s p f c.requires.unrolled c.there_is_no_cycle.ensures c.what_is_read_was_kept.ensures c.nodes_stay.ensures) c.requires.entry c.requires.blank c.requires.locations
          (can.types.temps ∙ sym (ap (λ x. x.temps) c.requires.unrolled)) (can.types.slots ∙ sym (ap (λ x. x.slots) c.requires.unrolled));
    }

pub visit-requires-clause-small : goal.visit-requires-clause-small
visit-requires-clause-small g c = small_grown _ _ _ c.requires.small c.loop-at.invariant.grown

pub loop-at-preserved : goal.loop-at-preserved
loop-at-preserved g c = record {
  grown = grown_both _ _ _ c.loop-at.invariant.grown c.in_ok-visit.ensures.grown;
  gates = c.in_ok-visit.ensures.gates;
  before = c.in_ok-visit.ensures.ok;
}

pub returns-clause-ok : goal.returns-clause-ok
returns-clause-ok g c =
    let s = g.S.Steps.source c.args.graph.now.steps.now in
    let p = g.S.Steps.layout c.args.graph.now.steps.now in
    let f = c.args.graph.now.flow.now in
    c.finish.ensures s p (flow_in_gates s p).nodes (c.loop-at.invariant.grown.inputs ∙ c.requires.inputs)
    (are_runs s p c.walks_stay.ensures c.walks_are_runs.ensures)
    (at_end s p f _ _ c.loop-at.at c.requires.unrolled (let out = c.loop-at-test.false in omega arith) c.loop-at.invariant.before)
