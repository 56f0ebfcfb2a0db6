use Rattle.std.proofs.Common.{◌≡◌, ℕ, true, List, map, subst, sym, ◌∙◌}
use Rattle.flow_graph.specs.Conditions.{InTemp, among}
use Rattle.flow_gates.specs.Graph.{nodes_of}
use Rattle.flow_gates.proofs.nodes.keep.Goals as goal

pub returns-in-Some-clause-ok : goal.returns-in-Some-clause-ok
returns-in-Some-clause-ok g c =
    let s = g.S.Steps.source c.args.graph.now.steps.now in
    let p = g.S.Steps.layout c.args.graph.now.steps.now in
    let named = subst (λ (ms : List ℕ). among (InTemp c.in-Some.temp) (map InTemp ms) ≡ true) c.reads-names.ensures c.in-Some.ensures.0 in
    (c.pass_unread.ensures _ (sym (c.drops.ensures s.structs _ _) ∙ c.if-drops.false) named).past s p (nodes_of s c.args.graph.now.flow.now) c.args.at c.requires.at.node c.requires.at.stands

pub returns-then-drops-clause-ok : goal.returns-then-drops-clause-ok
returns-then-drops-clause-ok g c =
    let s = g.S.Steps.source c.args.graph.now.steps.now in
    let p = g.S.Steps.layout c.args.graph.now.steps.now in
    (c.in_ok-skip.ensures.ok _ _ _ (sym (c.drops.ensures s.structs _ _) ∙ c.if-drops.true)).past s p (nodes_of s c.args.graph.now.flow.now) c.args.at
    c.requires.at.node c.requires.at.stands

pub keep_read-requires-clause-goes : goal.keep_read-requires-clause-goes
keep_read-requires-clause-goes g c = sym (c.drops.ensures (g.S.Steps.source c.args.graph.now.steps.now).structs _ _) ∙ c.if-drops.false
