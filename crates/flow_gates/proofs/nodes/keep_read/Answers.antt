use Rattle.std.proofs.Common.{refl}
use Rattle.flow_turns.proofs.Past.{grown_both}
use Rattle.flow_gates.specs.Graph.{nodes_of}
use Rattle.flow_gates.proofs.Stepping.{can_keep, temp_in, stored, kept_by_name, begins_sure, temps_behind, inputs_behind, gates_behind, made_behind, few_behind, here_behind}
use Rattle.flow_gates.proofs.nodes.keep_read.Goals as goal

pub evaluate-requires-clause-inputs : goal.evaluate-requires-clause-inputs
evaluate-requires-clause-inputs g c =
    let s = g.S.Steps.source c.args.graph.now.steps.now in
    let p = g.S.Steps.layout c.args.graph.now.steps.now in
    let f = c.args.graph.now.flow.now in
    inputs_behind s p f c.args.at _ c.args.net.now c.args.before.now c.args.here c.requires.at _ c.in_ok-on.ensures.grown

pub evaluate-requires-clause-store : goal.evaluate-requires-clause-store
evaluate-requires-clause-store g c =
    let s = g.S.Steps.source c.args.graph.now.steps.now in
    let p = g.S.Steps.layout c.args.graph.now.steps.now in
    let f = c.args.graph.now.flow.now in
    stored s p f c.args.at _ c.args.net.now c.args.before.now c.args.here c.requires.at _ c.in_ok-on.ensures.grown

pub evaluate-requires-clause-temps : goal.evaluate-requires-clause-temps
evaluate-requires-clause-temps g c =
    let s = g.S.Steps.source c.args.graph.now.steps.now in
    let p = g.S.Steps.layout c.args.graph.now.steps.now in
    let f = c.args.graph.now.flow.now in
    temps_behind s p f c.args.at _ c.args.net.now c.args.before.now c.args.here c.requires.at _ c.in_ok-on.ensures.grown

pub evaluate-requires-clause-can : goal.evaluate-requires-clause-can
evaluate-requires-clause-can g c =
    let s = g.S.Steps.source c.args.graph.now.steps.now in
    let p = g.S.Steps.layout c.args.graph.now.steps.now in
    let f = c.args.graph.now.flow.now in
    can_keep s p f c.args.at _ c.args.net.now c.args.before.now c.args.here c.requires.at _ _ _ _ refl (kept_by_name c.args.before.now.temps _ _ c.requires.names c.requires.kept)

pub keep-requires-clause-gates : goal.keep-requires-clause-gates
keep-requires-clause-gates g c =
    let s = g.S.Steps.source c.args.graph.now.steps.now in
    let p = g.S.Steps.layout c.args.graph.now.steps.now in
    let f = c.args.graph.now.flow.now in
    gates_behind s p f c.args.at _ c.args.net.now c.args.before.now c.args.here c.requires.at _ (grown_both _ _ _ c.in_ok-on.ensures.grown c.in_ok-made.ensures.grown) _ c.in_ok-on.on c.in_ok-made.made c.in_ok-made.ensures.made

pub keep-requires-clause-few : goal.keep-requires-clause-few
keep-requires-clause-few g c =
    let s = g.S.Steps.source c.args.graph.now.steps.now in
    let p = g.S.Steps.layout c.args.graph.now.steps.now in
    let f = c.args.graph.now.flow.now in
    few_behind s p f c.args.at _ c.args.net.now c.args.before.now c.args.here c.requires.at _ (grown_both _ _ _ c.in_ok-on.ensures.grown c.in_ok-made.ensures.grown)

pub keep-requires-clause-here : goal.keep-requires-clause-here
keep-requires-clause-here g c =
    let s = g.S.Steps.source c.args.graph.now.steps.now in
    let p = g.S.Steps.layout c.args.graph.now.steps.now in
    let f = c.args.graph.now.flow.now in
    here_behind s p f c.args.at _ c.args.net.now c.args.before.now c.args.here c.requires.at _ (grown_both _ _ _ c.in_ok-on.ensures.grown c.in_ok-made.ensures.grown)

pub keep-requires-clause-made : goal.keep-requires-clause-made
keep-requires-clause-made g c =
    let s = g.S.Steps.source c.args.graph.now.steps.now in
    let p = g.S.Steps.layout c.args.graph.now.steps.now in
    let f = c.args.graph.now.flow.now in
    made_behind s p f c.args.at _ c.args.net.now c.args.before.now c.args.here c.requires.at _ (grown_both _ _ _ c.in_ok-on.ensures.grown c.in_ok-made.ensures.grown) _ c.in_ok-on.on c.in_ok-made.made c.in_ok-made.ensures.made

pub keep-requires-clause-temp : goal.keep-requires-clause-temp
keep-requires-clause-temp g c =
    let s = g.S.Steps.source c.args.graph.now.steps.now in
    let p = g.S.Steps.layout c.args.graph.now.steps.now in
    let f = c.args.graph.now.flow.now in
    temp_in s p f c.args.at _ c.args.net.now c.args.before.now c.args.here c.requires.at _ _ _ _ refl

pub returns-clause-ok : goal.returns-clause-ok
returns-clause-ok g c =
    let s = g.S.Steps.source c.args.graph.now.steps.now in
    let p = g.S.Steps.layout c.args.graph.now.steps.now in
    c.in_ok-keep.ensures.value.past s p (nodes_of s c.args.graph.now.flow.now) c.args.at _ _ c.requires.at.node c.requires.goes _
    (grown_both _ _ _ c.in_ok-on.ensures.grown c.in_ok-made.ensures.grown) c.args.before.now
    (record { temps = refl; ways = refl; fates = refl; result = refl; blank = refl }) c.requires.at.stands
    (begins_sure _ _ c.args.here c.args.before.now _ _ c.in_ok-on.on c.in_ok-made.made c.in_ok-made.ensures.grown c.requires.names c.in_ok-made.ensures.made.began c.in_ok-on.ensures.ok)
    c.in_ok-made.ensures.ok
