use Rattle.std.proofs.Common.{◌≡◌, ℕ, true, List, map, refl, subst}
use Rattle.flow_graph.specs.Conditions.{InTemp, among}
use Rattle.flow_gates.specs.Graph.{nodes_of}
use Rattle.flow_gates.proofs.Stepping.{kept_by_name}
use Rattle.flow_whole.proofs.locals.set_object.Goals as goal

pub object_read-requires-clause-kept : goal.object_read-requires-clause-kept
object_read-requires-clause-kept g c = kept_by_name c.args.before.now.temps _ _ c.reads-names.ensures c.in-None.ensures

pub returns-in-Some-clause-ok : goal.returns-in-Some-clause-ok
returns-in-Some-clause-ok g c =
    let s = g.S.Steps.source c.args.graph.now.steps.now in
    let p = g.S.Steps.layout c.args.graph.now.steps.now in
    let named = subst (λ (ms : List ℕ). among (InTemp c.in-Some.temp) (map InTemp ms) ≡ true) c.reads-names.ensures c.in-Some.ensures.0 in
    (c.pass_unread.ensures _ refl named).past s p (nodes_of s c.args.graph.now.flow.now) c.args.at c.requires.at.node c.requires.at.stands
