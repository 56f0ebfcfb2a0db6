use Rattle.std.proofs.Common.{sym}
use Rattle.flow_gates.specs.Graph.{nodes_of}
use Rattle.flow_gates.proofs.Stepping.{few_behind, grown_same}
use Rattle.flow_whole.proofs.Initialised.{fills_in}
use Rattle.flow_whole.proofs.braces.fill.Goals as goal

pub fill-requires-clause-looked : goal.fill-requires-clause-looked
fill-requires-clause-looked g c =
    let s = g.S.Steps.source c.args.graph.now.steps.now in
    let p = g.S.Steps.layout c.args.graph.now.steps.now in
    let f = c.args.graph.now.flow.now in
    c.requires.laid.looked

pub fill-requires-clause-gates : goal.fill-requires-clause-gates
fill-requires-clause-gates g c =
    let s = g.S.Steps.source c.args.graph.now.steps.now in
    let p = g.S.Steps.layout c.args.graph.now.steps.now in
    let f = c.args.graph.now.flow.now in
    c.requires.at.gates

pub fill-requires-clause-few : goal.fill-requires-clause-few
fill-requires-clause-few g c =
    let s = g.S.Steps.source c.args.graph.now.steps.now in
    let p = g.S.Steps.layout c.args.graph.now.steps.now in
    let f = c.args.graph.now.flow.now in
    few_behind s p f c.args.at _ c.args.net.now c.args.before.now c.args.here c.requires.at _ grown_same

pub fill-requires-clause-here : goal.fill-requires-clause-here
fill-requires-clause-here g c =
    let s = g.S.Steps.source c.args.graph.now.steps.now in
    let p = g.S.Steps.layout c.args.graph.now.steps.now in
    let f = c.args.graph.now.flow.now in
    c.requires.at.ways

pub returns-clause-ok : goal.returns-clause-ok
returns-clause-ok g c =
    let s = g.S.Steps.source c.args.graph.now.steps.now in
    let p = g.S.Steps.layout c.args.graph.now.steps.now in
    (fills_in s p c.args.laid.now _ _ _ _ _ _ _ c.args.here _ _ c.requires.laid c.in_ok-fill.ensures.ok).past (nodes_of s c.args.graph.now.flow.now) c.args.at _ c.requires.at.node (sym c.local-location.ensures.is) c.requires.at.stands
