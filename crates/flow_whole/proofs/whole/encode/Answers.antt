use Rattle.std.proofs.Common.{ap, ◌∙◌}
use Rattle.flow_exits.specs.Exits.{ending_flow}
use Rattle.flow_whole.proofs.Beginning.{fine_of, gates_ended}
use Rattle.flow_whole.proofs.whole.encode.Goals as goal

pub ended-requires-clause-fine : goal.ended-requires-clause-fine
ended-requires-clause-fine g c =
    fine_of (g.S.Steps.source c.args.graph.now.steps.now) c.args.graph.now.flow.now c.requires.unrolled c.nodes_are_fine.ensures

pub encode_ended-made-requires-clause-unrolled : goal.encode_ended-made-requires-clause-unrolled
encode_ended-made-requires-clause-unrolled g c =
    c.in_ok-flow.ensures.seen ∙ ap (ending_flow (g.S.Steps.layout c.args.graph.now.steps.now)) c.requires.unrolled

pub encode_ended-made-requires-clause-have : goal.encode_ended-made-requires-clause-have
encode_ended-made-requires-clause-have g c =
    let steps = c.args.graph.now.steps.now in
    gates_ended (g.S.Steps.takes steps) (g.S.Steps.makes steps) (g.S.Steps.source steps) (g.S.Steps.layout steps) c.args.graph.now.flow.now.nodes
    c.in_ok-flow.flow.nodes c.in_ok-flow.ensures.nodes c.requires.have
