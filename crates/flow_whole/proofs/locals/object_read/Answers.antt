use Rattle.std.proofs.Common.{refl, sym}
use Rattle.flow_turns.proofs.Past.{grown_both}
use Rattle.flow_gates.specs.Graph.{nodes_of}
use Rattle.flow_gates.proofs.Stepping.{stored, begins_sure, temps_behind, inputs_behind, gates_behind, made_behind, few_behind, here_behind}
use Rattle.flow_whole.proofs.Objects.{can_find, local_there, laid_behind, low_in, laid_in, sets_in, found}
use Rattle.flow_whole.proofs.locals.object_read.Goals as goal

pub evaluate-requires-clause-inputs : goal.evaluate-requires-clause-inputs
evaluate-requires-clause-inputs g c =
    let s = g.S.Steps.source c.args.graph.now.steps.now in
    let p = g.S.Steps.layout c.args.graph.now.steps.now in
    let f = c.args.graph.now.flow.now in
    inputs_behind s p f c.args.at _ c.args.net.now c.args.before.now c.args.here c.requires.at _ c.in_ok-on.ensures.grown

pub evaluate-requires-clause-store : goal.evaluate-requires-clause-store
evaluate-requires-clause-store g c =
    let s = g.S.Steps.source c.args.graph.now.steps.now in
    let p = g.S.Steps.layout c.args.graph.now.steps.now in
    let f = c.args.graph.now.flow.now in
    stored s p f c.args.at _ c.args.net.now c.args.before.now c.args.here c.requires.at _ c.in_ok-on.ensures.grown

pub evaluate-requires-clause-temps : goal.evaluate-requires-clause-temps
evaluate-requires-clause-temps g c =
    let s = g.S.Steps.source c.args.graph.now.steps.now in
    let p = g.S.Steps.layout c.args.graph.now.steps.now in
    let f = c.args.graph.now.flow.now in
    temps_behind s p f c.args.at _ c.args.net.now c.args.before.now c.args.here c.requires.at _ c.in_ok-on.ensures.grown

pub evaluate-requires-clause-can : goal.evaluate-requires-clause-can
evaluate-requires-clause-can g c =
    let s = g.S.Steps.source c.args.graph.now.steps.now in
    let p = g.S.Steps.layout c.args.graph.now.steps.now in
    let f = c.args.graph.now.flow.now in
    can_find s p f c.args.at _ c.args.net.now c.args.before.now c.args.here c.requires.at _ _ _ refl c.requires.object c.requires.kept

pub set-requires-clause-gates : goal.set-requires-clause-gates
set-requires-clause-gates g c =
    let s = g.S.Steps.source c.args.graph.now.steps.now in
    let p = g.S.Steps.layout c.args.graph.now.steps.now in
    let f = c.args.graph.now.flow.now in
    gates_behind s p f c.args.at _ c.args.net.now c.args.before.now c.args.here c.requires.at _ (grown_both _ _ _ c.in_ok-on.ensures.grown c.in_ok-made.ensures.grown) _ c.in_ok-on.on c.in_ok-made.made c.in_ok-made.ensures.made

pub set-requires-clause-few : goal.set-requires-clause-few
set-requires-clause-few g c =
    let s = g.S.Steps.source c.args.graph.now.steps.now in
    let p = g.S.Steps.layout c.args.graph.now.steps.now in
    let f = c.args.graph.now.flow.now in
    few_behind s p f c.args.at _ c.args.net.now c.args.before.now c.args.here c.requires.at _ (grown_both _ _ _ c.in_ok-on.ensures.grown c.in_ok-made.ensures.grown)

pub set-requires-clause-here : goal.set-requires-clause-here
set-requires-clause-here g c =
    let s = g.S.Steps.source c.args.graph.now.steps.now in
    let p = g.S.Steps.layout c.args.graph.now.steps.now in
    let f = c.args.graph.now.flow.now in
    here_behind s p f c.args.at _ c.args.net.now c.args.before.now c.args.here c.requires.at _ (grown_both _ _ _ c.in_ok-on.ensures.grown c.in_ok-made.ensures.grown)

pub set-requires-clause-made : goal.set-requires-clause-made
set-requires-clause-made g c =
    let s = g.S.Steps.source c.args.graph.now.steps.now in
    let p = g.S.Steps.layout c.args.graph.now.steps.now in
    let f = c.args.graph.now.flow.now in
    made_behind s p f c.args.at _ c.args.net.now c.args.before.now c.args.here c.requires.at _ (grown_both _ _ _ c.in_ok-on.ensures.grown c.in_ok-made.ensures.grown) _ c.in_ok-on.on c.in_ok-made.made c.in_ok-made.ensures.made

pub set-requires-clause-looked : goal.set-requires-clause-looked
set-requires-clause-looked g c = c.requires.laid.looked

pub set-requires-clause-laid : goal.set-requires-clause-laid
set-requires-clause-laid g c =
    let s = g.S.Steps.source c.args.graph.now.steps.now in
    let p = g.S.Steps.layout c.args.graph.now.steps.now in
    let f = c.args.graph.now.flow.now in
    laid_in s p c.args.laid.now _ c.requires.laid (laid_behind s p f c.args.at _ c.args.net.now c.args.before.now c.args.here c.requires.at _ c.in_ok-made.ensures.ok.same)

pub set-requires-clause-there : goal.set-requires-clause-there
set-requires-clause-there g c =
    let s = g.S.Steps.source c.args.graph.now.steps.now in
    let p = g.S.Steps.layout c.args.graph.now.steps.now in
    let f = c.args.graph.now.flow.now in
    low_in s p c.args.laid.now _ _ c.requires.laid c.local-location.ensures.is (local_there s p f c.args.at _ c.args.net.now c.args.before.now c.args.here c.requires.at _ _ _ refl)

pub returns-clause-ok : goal.returns-clause-ok
returns-clause-ok g c =
    let s = g.S.Steps.source c.args.graph.now.steps.now in
    let p = g.S.Steps.layout c.args.graph.now.steps.now in
    (sets_in s p c.args.laid.now _ _ _ _ _ c.args.here c.in_ok-made.made _ _ c.requires.laid c.in_ok-set.ensures.ok).past (nodes_of s c.args.graph.now.flow.now) c.args.at _ _ c.requires.at.node (sym c.local-location.ensures.is) (sym c.requires.typed) _
    (grown_both _ _ _ c.in_ok-on.ensures.grown c.in_ok-made.ensures.grown) c.args.before.now
    (record { temps = refl; ways = refl; fates = refl; result = refl; blank = refl }) c.requires.at.stands
    (begins_sure _ _ c.args.here c.args.before.now _ _ c.in_ok-on.on c.in_ok-made.made c.in_ok-made.ensures.grown c.reads-names.ensures c.in_ok-made.ensures.made.began c.in_ok-on.ensures.ok)
    (found _ _ _ _ _ _ _ _ c.requires.object c.in_ok-made.ensures.ok)
