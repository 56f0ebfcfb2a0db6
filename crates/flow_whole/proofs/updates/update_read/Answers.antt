use Rattle.std.proofs.Common.{◌∷◌, [], length, refl, ◌∙◌, ap}
use Rattle.flow_turns.proofs.Past.{grown_both}
use Rattle.flow_gates.specs.Graph.{nodes_of}
use Rattle.flow_gates.proofs.Stepping.{begins_sure, temps_behind, gates_behind, made_behind, few_behind, here_behind, stored}
use Rattle.flow_whole.proofs.Objects.{laid_behind, laid_in}
use Rattle.flow_whole.proofs.Assigning.{can_update, temp_of_update, many, can_in, many_in, updates_in, made_in}
use Rattle.flow_whole.proofs.updates.update_read.Goals as goal

pub update-requires-clause-laid : goal.update-requires-clause-laid
update-requires-clause-laid g c =
    let s = g.S.Steps.source c.args.graph.now.steps.now in
    let p = g.S.Steps.layout c.args.graph.now.steps.now in
    let f = c.args.graph.now.flow.now in
    laid_in s p c.args.laid.now _ c.requires.laid (laid_behind s p f c.args.at _ c.args.net.now c.args.before.now c.args.here c.requires.at _ refl)

pub update-requires-clause-store : goal.update-requires-clause-store
update-requires-clause-store g c =
    let s = g.S.Steps.source c.args.graph.now.steps.now in
    let p = g.S.Steps.layout c.args.graph.now.steps.now in
    let f = c.args.graph.now.flow.now in
    (stored s p f c.args.at _ c.args.net.now c.args.before.now c.args.here c.requires.at _ c.in_ok-on.ensures.grown).below

pub update-requires-clause-temps : goal.update-requires-clause-temps
update-requires-clause-temps g c =
    let s = g.S.Steps.source c.args.graph.now.steps.now in
    let p = g.S.Steps.layout c.args.graph.now.steps.now in
    let f = c.args.graph.now.flow.now in
    temps_behind s p f c.args.at _ c.args.net.now c.args.before.now c.args.here c.requires.at _ c.in_ok-on.ensures.grown

pub update-requires-clause-locations : goal.update-requires-clause-locations
update-requires-clause-locations g c =
    let s = g.S.Steps.source c.args.graph.now.steps.now in
    let p = g.S.Steps.layout c.args.graph.now.steps.now in
    let f = c.args.graph.now.flow.now in
    many_in s p c.args.laid.now _ c.requires.laid (ap length c.as_slice-locations.ensures.value ∙ many s p f c.args.at _ c.args.net.now c.args.before.now c.args.here c.requires.at)

pub update-requires-clause-can : goal.update-requires-clause-can
update-requires-clause-can g c =
    let s = g.S.Steps.source c.args.graph.now.steps.now in
    let p = g.S.Steps.layout c.args.graph.now.steps.now in
    let f = c.args.graph.now.flow.now in
    can_in s p c.args.laid.now _ _ _ _ _ _ c.requires.laid (can_update s p f c.args.at _ c.args.net.now c.args.before.now c.args.here c.requires.at _ _ _ _ _ _ _ refl c.requires.plain c.requires.kept)

pub keep-requires-clause-gates : goal.keep-requires-clause-gates
keep-requires-clause-gates g c =
    let s = g.S.Steps.source c.args.graph.now.steps.now in
    let p = g.S.Steps.layout c.args.graph.now.steps.now in
    let f = c.args.graph.now.flow.now in
    gates_behind s p f c.args.at _ c.args.net.now c.args.before.now c.args.here c.requires.at _ (grown_both _ _ _ c.in_ok-on.ensures.grown c.in_ok-made.ensures.grown) _ c.in_ok-on.on c.in_ok-made.made (made_in s p c.args.laid.now _ _ _ c.in_ok-made.made c.requires.laid c.in_ok-made.ensures.made)

pub keep-requires-clause-few : goal.keep-requires-clause-few
keep-requires-clause-few g c =
    let s = g.S.Steps.source c.args.graph.now.steps.now in
    let p = g.S.Steps.layout c.args.graph.now.steps.now in
    let f = c.args.graph.now.flow.now in
    few_behind s p f c.args.at _ c.args.net.now c.args.before.now c.args.here c.requires.at _ (grown_both _ _ _ c.in_ok-on.ensures.grown c.in_ok-made.ensures.grown)

pub keep-requires-clause-here : goal.keep-requires-clause-here
keep-requires-clause-here g c =
    let s = g.S.Steps.source c.args.graph.now.steps.now in
    let p = g.S.Steps.layout c.args.graph.now.steps.now in
    let f = c.args.graph.now.flow.now in
    here_behind s p f c.args.at _ c.args.net.now c.args.before.now c.args.here c.requires.at _ (grown_both _ _ _ c.in_ok-on.ensures.grown c.in_ok-made.ensures.grown)

pub keep-requires-clause-made : goal.keep-requires-clause-made
keep-requires-clause-made g c =
    let s = g.S.Steps.source c.args.graph.now.steps.now in
    let p = g.S.Steps.layout c.args.graph.now.steps.now in
    let f = c.args.graph.now.flow.now in
    made_behind s p f c.args.at _ c.args.net.now c.args.before.now c.args.here c.requires.at _ (grown_both _ _ _ c.in_ok-on.ensures.grown c.in_ok-made.ensures.grown) _ c.in_ok-on.on c.in_ok-made.made (made_in s p c.args.laid.now _ _ _ c.in_ok-made.made c.requires.laid c.in_ok-made.ensures.made)

pub keep-requires-clause-temp : goal.keep-requires-clause-temp
keep-requires-clause-temp g c =
    let s = g.S.Steps.source c.args.graph.now.steps.now in
    let p = g.S.Steps.layout c.args.graph.now.steps.now in
    let f = c.args.graph.now.flow.now in
    temp_of_update s p f c.args.at _ c.args.net.now c.args.before.now c.args.here c.requires.at _ _ _ _ _ _ _ refl

pub returns-clause-ok : goal.returns-clause-ok
returns-clause-ok g c =
    let s = g.S.Steps.source c.args.graph.now.steps.now in
    let p = g.S.Steps.layout c.args.graph.now.steps.now in
    c.in_ok-keep.ensures.update.past s p (nodes_of s c.args.graph.now.flow.now) c.args.at _ _ _ _ _ c.requires.at.node _
    (grown_both _ _ _ c.in_ok-on.ensures.grown c.in_ok-made.ensures.grown) c.args.before.now
    (record { temps = refl; ways = refl; fates = refl; result = refl; blank = refl }) c.requires.at.stands
    (begins_sure _ _ c.args.here c.args.before.now (c.args.updates.now.assignment.place ∷ []) (c.args.updates.now.assignment.place ∷ []) c.in_ok-on.on c.in_ok-made.made c.in_ok-made.ensures.grown refl c.in_ok-made.ensures.made.began c.in_ok-on.ensures.ok)
    (updates_in s p c.args.laid.now _ _ _ _ _ _ _ _ _ c.in_ok-made.made c.requires.laid c.in_ok-made.ensures.ok)
