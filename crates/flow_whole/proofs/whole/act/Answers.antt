use Rattle.flow_gates.proofs.Stepping.{there_at}
use Rattle.flow_whole.proofs.whole.act.Goals as goal

pub step-requires-clause-have : goal.step-requires-clause-have
step-requires-clause-have g c =
    let x = c.args.graph.now.steps.now in
    c.node_at-node.ensures.gates (g.S.Steps.takes x) (g.S.Steps.makes x) c.requires.have

pub step-requires-in-Set-clause-have : goal.step-requires-in-Set-clause-have
step-requires-in-Set-clause-have g c =
    let x = c.args.graph.now.steps.now in
    c.node_at-node.ensures.gates (g.S.Steps.takes x) (g.S.Steps.makes x) c.requires.have

pub step-requires-in-Call-clause-have : goal.step-requires-in-Call-clause-have
step-requires-in-Call-clause-have g c =
    let x = c.args.graph.now.steps.now in
    c.node_at-node.ensures.gates (g.S.Steps.takes x) (g.S.Steps.makes x) c.requires.have

pub change-requires-clause-have : goal.change-requires-clause-have
change-requires-clause-have g c =
    let x = c.args.graph.now.steps.now in
    c.node_at-node.ensures.gates (g.S.Steps.takes x) (g.S.Steps.makes x) c.requires.have

pub change-requires-in-Update-clause-have : goal.change-requires-in-Update-clause-have
change-requires-in-Update-clause-have g c =
    let x = c.args.graph.now.steps.now in
    c.node_at-node.ensures.gates (g.S.Steps.takes x) (g.S.Steps.makes x) c.requires.have

pub change-requires-in-Fill-clause-have : goal.change-requires-in-Fill-clause-have
change-requires-in-Fill-clause-have g c =
    let x = c.args.graph.now.steps.now in
    c.node_at-node.ensures.gates (g.S.Steps.takes x) (g.S.Steps.makes x) c.requires.have

pub step-requires-clause-at : goal.step-requires-clause-at
step-requires-clause-at g c =
    let x = c.args.graph.now.steps.now in
    let s = g.S.Steps.source x in
    let p = g.S.Steps.layout x in
    there_at s p c.args.graph.now.flow.now c.args.at _ _ _ _ c.requires.small c.requires.gates c.requires.here (c.node_at-node.ensures.is s.structs) c.requires.at

pub change-requires-clause-at : goal.change-requires-clause-at
change-requires-clause-at g c =
    let x = c.args.graph.now.steps.now in
    let s = g.S.Steps.source x in
    let p = g.S.Steps.layout x in
    there_at s p c.args.graph.now.flow.now c.args.at _ _ _ _ c.requires.small c.requires.gates c.requires.here (c.node_at-node.ensures.is s.structs) c.requires.at

pub turn-requires-clause-at : goal.turn-requires-clause-at
turn-requires-clause-at g c =
    let x = c.args.graph.now.steps.now in
    let s = g.S.Steps.source x in
    let p = g.S.Steps.layout x in
    there_at s p c.args.graph.now.flow.now c.args.at _ _ _ _ c.requires.small c.requires.gates c.requires.here (c.node_at-node.ensures.is s.structs) c.requires.at
