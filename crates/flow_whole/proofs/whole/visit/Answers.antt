use Rattle.flow_gates.specs.Graph.{nodes_of}
use Rattle.flow_gates.proofs.Stepping.{small_grown}
use Rattle.flow_whole.proofs.whole.visit.Goals as goal

pub returns-then-is_never-clause-ok : goal.returns-then-is_never-clause-ok
returns-then-is_never-clause-ok g c =
    let s = g.S.Steps.source c.args.graph.now.steps.now in
    let p = g.S.Steps.layout c.args.graph.now.steps.now in
    let ns = nodes_of s c.args.graph.now.flow.now in
    (c.pass.ensures _).past s p ns c.args.at (c.node_at-node.ensures.is s.structs) (c.in_ok-here.ensures.ok.at s p ns c.requires.before)

pub act-requires-clause-small : goal.act-requires-clause-small
act-requires-clause-small g c = small_grown _ _ _ c.requires.small c.in_ok-here.ensures.grown

pub act-requires-clause-at : goal.act-requires-clause-at
act-requires-clause-at g c =
    let s = g.S.Steps.source c.args.graph.now.steps.now in
    let p = g.S.Steps.layout c.args.graph.now.steps.now in
    c.in_ok-here.ensures.ok.at s p (nodes_of s c.args.graph.now.flow.now) c.requires.before
