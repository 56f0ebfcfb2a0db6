use Rattle.std.proofs.Common.{ℕ, Option, Some, refl, sym, ap, ◌∙◌}
use Rattle.flow_graph.specs.Nodes.{Exit}
use Rattle.sc_flow.specs.declared.node.Node.{Node as Code}
use Rattle.sc_flow.specs.Seen.{node}
use Rattle.flow_gates.specs.Graph.{nodes_of}
use Rattle.flow_whole.proofs.whole.turn.Goals as goal

pub returns-in_ok-branch-in-Branch-clause-ok : goal.returns-in_ok-branch-in-Branch-clause-ok
returns-in_ok-branch-in-Branch-clause-ok g c =
    let x = c.args.graph.now.steps.now in
    let s = g.S.Steps.source x in
    let p = g.S.Steps.layout x in
    c.in_ok-branch-in-Branch.ensures.ok.past s p (nodes_of s c.args.graph.now.flow.now) c.args.at (c.requires.at.node ∙ ap (λ (m : Code). Some (node s.structs m)) c.in-Branch.is) c.requires.at.stands

pub returns-in_ok-branch-in-Choose-clause-ok : goal.returns-in_ok-branch-in-Choose-clause-ok
returns-in_ok-branch-in-Choose-clause-ok g c =
    let x = c.args.graph.now.steps.now in
    let s = g.S.Steps.source x in
    let p = g.S.Steps.layout x in
    c.in_ok-branch-in-Choose.ensures.ok.past s p (nodes_of s c.args.graph.now.flow.now) c.args.at (c.requires.at.node ∙ ap (λ (m : Code). Some (node s.structs m)) c.in-Choose.is) c.requires.at.stands

pub returns-in_ok-mark-in-Mark-clause-ok : goal.returns-in_ok-mark-in-Mark-clause-ok
returns-in_ok-mark-in-Mark-clause-ok g c =
    let x = c.args.graph.now.steps.now in
    let s = g.S.Steps.source x in
    let p = g.S.Steps.layout x in
    (c.in_ok-mark-in-Mark.ensures.ok _ refl).past s p (nodes_of s c.args.graph.now.flow.now) c.args.at (c.requires.at.node ∙ ap (λ (m : Code). Some (node s.structs m)) c.in-Mark.is) c.requires.at.stands

pub returns-in_ok-mark-in-MarkSwitch-clause-ok : goal.returns-in_ok-mark-in-MarkSwitch-clause-ok
returns-in_ok-mark-in-MarkSwitch-clause-ok g c =
    let x = c.args.graph.now.steps.now in
    let s = g.S.Steps.source x in
    let p = g.S.Steps.layout x in
    (c.in_ok-mark-in-MarkSwitch.ensures.ok _ refl).past s p (nodes_of s c.args.graph.now.flow.now) c.args.at (c.requires.at.node ∙ ap (λ (m : Code). Some (node s.structs m)) c.in-MarkSwitch.is) c.requires.at.stands

pub returns-in_ok-exit-in-Exit-clause-ok : goal.returns-in_ok-exit-in-Exit-clause-ok
returns-in_ok-exit-in-Exit-clause-ok g c =
    let x = c.args.graph.now.steps.now in
    let s = g.S.Steps.source x in
    let p = g.S.Steps.layout x in
    c.in_ok-exit-in-Exit.ensures.ok.past s p (nodes_of s c.args.graph.now.flow.now) c.args.at
    (c.requires.at.node ∙ ap (λ (m : Code). Some (node s.structs m)) c.in-Exit.is ∙ ap (λ (m : Option ℕ). Some (Exit m)) (sym c.number_of.ensures)) c.requires.at.stands

pub returns-in_ok-set_aside-in-SetAside-clause-ok : goal.returns-in_ok-set_aside-in-SetAside-clause-ok
returns-in_ok-set_aside-in-SetAside-clause-ok g c =
    let x = c.args.graph.now.steps.now in
    let s = g.S.Steps.source x in
    let p = g.S.Steps.layout x in
    (c.in_ok-set_aside-in-SetAside.ensures.ok _).past s p (nodes_of s c.args.graph.now.flow.now) c.args.at (c.requires.at.node ∙ ap (λ (m : Code). Some (node s.structs m)) c.in-SetAside.is) c.requires.at.stands
