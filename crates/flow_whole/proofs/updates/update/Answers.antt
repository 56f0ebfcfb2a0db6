use Rattle.std.proofs.Common.{refl}
use Rattle.flow_gates.specs.Graph.{nodes_of}
use Rattle.flow_whole.proofs.updates.update.Goals as goal

pub returns-in-Some-clause-ok : goal.returns-in-Some-clause-ok
returns-in-Some-clause-ok g c =
    let s = g.S.Steps.source c.args.graph.now.steps.now in
    let p = g.S.Steps.layout c.args.graph.now.steps.now in
    (c.pass_unread.ensures _ refl c.in-Some.ensures.0).past s p (nodes_of s c.args.graph.now.flow.now) c.args.at c.requires.at.node c.requires.at.stands
