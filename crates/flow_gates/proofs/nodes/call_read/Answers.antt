use Rattle.std.proofs.Common.{refl}
use Rattle.flow_gates.specs.Graph.{nodes_of}
use Rattle.flow_gates.proofs.Stepping.{can_call, temp_of_call, stored, grown_same, gates_behind, made_behind, few_behind, here_behind}
use Rattle.flow_gates.proofs.nodes.call_read.Goals as goal

pub call-requires-clause-inputs : goal.call-requires-clause-inputs
call-requires-clause-inputs g c =
    let s = g.S.Steps.source c.args.graph.now.steps.now in
    let p = g.S.Steps.layout c.args.graph.now.steps.now in
    let f = c.args.graph.now.flow.now in
    c.requires.at.small.inputs

pub call-requires-clause-store : goal.call-requires-clause-store
call-requires-clause-store g c =
    let s = g.S.Steps.source c.args.graph.now.steps.now in
    let p = g.S.Steps.layout c.args.graph.now.steps.now in
    let f = c.args.graph.now.flow.now in
    stored s p f c.args.at _ c.args.net.now c.args.before.now c.args.here c.requires.at _ grown_same

pub call-requires-clause-temps : goal.call-requires-clause-temps
call-requires-clause-temps g c =
    let s = g.S.Steps.source c.args.graph.now.steps.now in
    let p = g.S.Steps.layout c.args.graph.now.steps.now in
    let f = c.args.graph.now.flow.now in
    c.requires.at.gates.temps

pub call-requires-clause-on : goal.call-requires-clause-on
call-requires-clause-on g c =
    let s = g.S.Steps.source c.args.graph.now.steps.now in
    let p = g.S.Steps.layout c.args.graph.now.steps.now in
    let f = c.args.graph.now.flow.now in
    c.requires.at.ways.gate.below

pub call-requires-clause-can : goal.call-requires-clause-can
call-requires-clause-can g c =
    let s = g.S.Steps.source c.args.graph.now.steps.now in
    let p = g.S.Steps.layout c.args.graph.now.steps.now in
    let f = c.args.graph.now.flow.now in
    can_call s p f c.args.at _ c.args.net.now c.args.before.now c.args.here c.requires.at _ _ _ _ refl c.requires.kept

pub keep-requires-clause-gates : goal.keep-requires-clause-gates
keep-requires-clause-gates g c =
    let s = g.S.Steps.source c.args.graph.now.steps.now in
    let p = g.S.Steps.layout c.args.graph.now.steps.now in
    let f = c.args.graph.now.flow.now in
    gates_behind s p f c.args.at _ c.args.net.now c.args.before.now c.args.here c.requires.at _ c.in_ok-made.ensures.grown _ c.args.here.gate c.in_ok-made.made c.in_ok-made.ensures.made

pub keep-requires-clause-few : goal.keep-requires-clause-few
keep-requires-clause-few g c =
    let s = g.S.Steps.source c.args.graph.now.steps.now in
    let p = g.S.Steps.layout c.args.graph.now.steps.now in
    let f = c.args.graph.now.flow.now in
    few_behind s p f c.args.at _ c.args.net.now c.args.before.now c.args.here c.requires.at _ c.in_ok-made.ensures.grown

pub keep-requires-clause-here : goal.keep-requires-clause-here
keep-requires-clause-here g c =
    let s = g.S.Steps.source c.args.graph.now.steps.now in
    let p = g.S.Steps.layout c.args.graph.now.steps.now in
    let f = c.args.graph.now.flow.now in
    here_behind s p f c.args.at _ c.args.net.now c.args.before.now c.args.here c.requires.at _ c.in_ok-made.ensures.grown

pub keep-requires-clause-made : goal.keep-requires-clause-made
keep-requires-clause-made g c =
    let s = g.S.Steps.source c.args.graph.now.steps.now in
    let p = g.S.Steps.layout c.args.graph.now.steps.now in
    let f = c.args.graph.now.flow.now in
    made_behind s p f c.args.at _ c.args.net.now c.args.before.now c.args.here c.requires.at _ c.in_ok-made.ensures.grown _ c.args.here.gate c.in_ok-made.made c.in_ok-made.ensures.made

pub keep-requires-clause-temp : goal.keep-requires-clause-temp
keep-requires-clause-temp g c =
    let s = g.S.Steps.source c.args.graph.now.steps.now in
    let p = g.S.Steps.layout c.args.graph.now.steps.now in
    let f = c.args.graph.now.flow.now in
    temp_of_call s p f c.args.at _ c.args.net.now c.args.before.now c.args.here c.requires.at _ _ _ _ refl

pub returns-clause-ok : goal.returns-clause-ok
returns-clause-ok g c =
    let s = g.S.Steps.source c.args.graph.now.steps.now in
    let p = g.S.Steps.layout c.args.graph.now.steps.now in
    c.in_ok-keep.ensures.call.past s p (nodes_of s c.args.graph.now.flow.now) c.args.at _ _ c.requires.at.node _
    c.in_ok-made.ensures.grown c.args.before.now
    (record { temps = refl; ways = refl; fates = refl; result = refl; blank = refl }) c.requires.at.stands
    c.in_ok-made.ensures.made.began c.in_ok-made.ensures.ok
