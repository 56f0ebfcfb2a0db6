use Rattle.std.proofs.Common.{refl, sym, ◌∙◌, ap, if◌then◌else◌, Bool}
use Rattle.flow_turns.proofs.Past.{grown_both}
use Rattle.run_laws.specs.Fits.{if_scalar}
use Rattle.sc_world.specs.Source.{Source}
use Rattle.sc_world.specs.Tree.{type_of}
use Rattle.sc_world.specs.Eval.{Value, Place'}
use Rattle.sc_flow.specs.Seen.{expression}
use Rattle.flow_gates.specs.Graph.{nodes_of}
use Rattle.flow_gates.proofs.Stepping.{begins_sure, temps_behind, inputs_behind, gates_behind, made_behind, few_behind, here_behind, stored}
use Rattle.flow_whole.proofs.Objects.{laid_behind, laid_in}
use Rattle.flow_whole.proofs.Initialised.{can_give, slot_there, gives_in, given_value}
use Rattle.flow_whole.proofs.braces.cells_read.Goals as goal

pub evaluate-requires-clause-inputs : goal.evaluate-requires-clause-inputs
evaluate-requires-clause-inputs g c =
    let s = g.S.Steps.source c.args.graph.now.steps.now in
    let p = g.S.Steps.layout c.args.graph.now.steps.now in
    let f = c.args.graph.now.flow.now in
    inputs_behind s p f c.args.at _ c.args.net.now c.args.before.now c.args.here c.requires.at _ c.in_ok-on.ensures.grown

pub evaluate-requires-clause-store : goal.evaluate-requires-clause-store
evaluate-requires-clause-store g c =
    let s = g.S.Steps.source c.args.graph.now.steps.now in
    let p = g.S.Steps.layout c.args.graph.now.steps.now in
    let f = c.args.graph.now.flow.now in
    stored s p f c.args.at _ c.args.net.now c.args.before.now c.args.here c.requires.at _ c.in_ok-on.ensures.grown

pub evaluate-requires-clause-temps : goal.evaluate-requires-clause-temps
evaluate-requires-clause-temps g c =
    let s = g.S.Steps.source c.args.graph.now.steps.now in
    let p = g.S.Steps.layout c.args.graph.now.steps.now in
    let f = c.args.graph.now.flow.now in
    temps_behind s p f c.args.at _ c.args.net.now c.args.before.now c.args.here c.requires.at _ c.in_ok-on.ensures.grown

pub evaluate-requires-clause-can : goal.evaluate-requires-clause-can
evaluate-requires-clause-can g c =
    let s = g.S.Steps.source c.args.graph.now.steps.now in
    let p = g.S.Steps.layout c.args.graph.now.steps.now in
    let f = c.args.graph.now.flow.now in
    can_give s p f c.args.at _ c.args.net.now c.args.before.now c.args.here c.requires.at _ _ _ _ refl (c.wanted-want.ensures ∙ (ap (λ (b : Bool). if b then Value else Place') c.is_scalar.ensures ∙ ap if_scalar (c.type_of-ctype.ensures ∙ ap (λ (u : Source). type_of (expression u.structs c.args.giving.now.expression)) c.requires.laid.source))) c.requires.kept

pub keep_cells-requires-clause-looked : goal.keep_cells-requires-clause-looked
keep_cells-requires-clause-looked g c =
    let s = g.S.Steps.source c.args.graph.now.steps.now in
    let p = g.S.Steps.layout c.args.graph.now.steps.now in
    let f = c.args.graph.now.flow.now in
    c.requires.laid.looked

pub keep_cells-requires-clause-gates : goal.keep_cells-requires-clause-gates
keep_cells-requires-clause-gates g c =
    let s = g.S.Steps.source c.args.graph.now.steps.now in
    let p = g.S.Steps.layout c.args.graph.now.steps.now in
    let f = c.args.graph.now.flow.now in
    gates_behind s p f c.args.at _ c.args.net.now c.args.before.now c.args.here c.requires.at _ (grown_both _ _ _ c.in_ok-on.ensures.grown c.in_ok-made.ensures.grown) _ c.in_ok-on.on c.in_ok-made.made c.in_ok-made.ensures.made

pub keep_cells-requires-clause-few : goal.keep_cells-requires-clause-few
keep_cells-requires-clause-few g c =
    let s = g.S.Steps.source c.args.graph.now.steps.now in
    let p = g.S.Steps.layout c.args.graph.now.steps.now in
    let f = c.args.graph.now.flow.now in
    few_behind s p f c.args.at _ c.args.net.now c.args.before.now c.args.here c.requires.at _ (grown_both _ _ _ c.in_ok-on.ensures.grown c.in_ok-made.ensures.grown)

pub keep_cells-requires-clause-here : goal.keep_cells-requires-clause-here
keep_cells-requires-clause-here g c =
    let s = g.S.Steps.source c.args.graph.now.steps.now in
    let p = g.S.Steps.layout c.args.graph.now.steps.now in
    let f = c.args.graph.now.flow.now in
    here_behind s p f c.args.at _ c.args.net.now c.args.before.now c.args.here c.requires.at _ (grown_both _ _ _ c.in_ok-on.ensures.grown c.in_ok-made.ensures.grown)

pub keep_cells-requires-clause-made : goal.keep_cells-requires-clause-made
keep_cells-requires-clause-made g c =
    let s = g.S.Steps.source c.args.graph.now.steps.now in
    let p = g.S.Steps.layout c.args.graph.now.steps.now in
    let f = c.args.graph.now.flow.now in
    made_behind s p f c.args.at _ c.args.net.now c.args.before.now c.args.here c.requires.at _ (grown_both _ _ _ c.in_ok-on.ensures.grown c.in_ok-made.ensures.grown) _ c.in_ok-on.on c.in_ok-made.made c.in_ok-made.ensures.made

pub keep_cells-requires-clause-laid : goal.keep_cells-requires-clause-laid
keep_cells-requires-clause-laid g c =
    let s = g.S.Steps.source c.args.graph.now.steps.now in
    let p = g.S.Steps.layout c.args.graph.now.steps.now in
    let f = c.args.graph.now.flow.now in
    laid_in s p c.args.laid.now _ c.requires.laid (laid_behind s p f c.args.at _ c.args.net.now c.args.before.now c.args.here c.requires.at _ c.in_ok-made.ensures.ok.same)

pub keep_cells-requires-clause-slot : goal.keep_cells-requires-clause-slot
keep_cells-requires-clause-slot g c =
    let s = g.S.Steps.source c.args.graph.now.steps.now in
    let p = g.S.Steps.layout c.args.graph.now.steps.now in
    let f = c.args.graph.now.flow.now in
    slot_there s p f c.args.at _ c.args.net.now c.args.before.now c.args.here c.requires.at _ _ _ refl

pub returns-clause-ok : goal.returns-clause-ok
returns-clause-ok g c =
    let s = g.S.Steps.source c.args.graph.now.steps.now in
    let p = g.S.Steps.layout c.args.graph.now.steps.now in
    (gives_in s p c.args.laid.now _ _ _ _ _ c.args.here c.in_ok-made.made _ _ c.requires.laid c.in_ok-keep_cells.ensures.ok).past (nodes_of s c.args.graph.now.flow.now) c.args.at _ c.requires.at.node (sym (c.type_of-ctype.ensures ∙ ap (λ (u : Source). type_of (expression u.structs c.args.giving.now.expression)) c.requires.laid.source)) _
    (grown_both _ _ _ c.in_ok-on.ensures.grown c.in_ok-made.ensures.grown) c.args.before.now
    (record { temps = refl; ways = refl; fates = refl; result = refl; blank = refl }) c.requires.at.stands
    (begins_sure _ _ c.args.here c.args.before.now _ _ c.in_ok-on.on c.in_ok-made.made c.in_ok-made.ensures.grown c.reads-names.ensures c.in_ok-made.ensures.made.began c.in_ok-on.ensures.ok)
    (given_value _ _ _ _ _ _ _ _ _ (c.wanted-want.ensures ∙ (ap (λ (b : Bool). if b then Value else Place') c.is_scalar.ensures ∙ ap if_scalar (c.type_of-ctype.ensures ∙ ap (λ (u : Source). type_of (expression u.structs c.args.giving.now.expression)) c.requires.laid.source))) c.in_ok-made.ensures.ok)
