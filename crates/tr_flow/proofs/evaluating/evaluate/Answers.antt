use Rattle.std.proofs.Common.{refl, ◌∙◌}
use Rattle.std.proofs.lemmas.Bool.{and_parts}
use Rattle.sc_flow.specs.Seen.{expression, want_of}
use Rattle.expr_fits.specs.Fits.{constants_fit}
use Rattle.run_world.specs.Seen.{env}
use Rattle.tr_flow.specs.Seen.{source_of}
use Rattle.tr_flow.specs.Taken.{names_temps}
use Rattle.tr_flow.proofs.Walked as gates
use Rattle.tr_flow.proofs.evaluating.evaluate.Goals as goal

pub walk_node-requires-clause-ready : goal.walk_node-requires-clause-ready
unfolding env
walk_node-requires-clause-ready c =
    let x = c.args.steps.now in
    gates.ready _ c.args.temps.now c.as_slice.ensures.value _ c.args.store.now c.in_ok-ends.ends x.few refl c.requires.store
    c.requires.temps c.in_ok-ends.ensures.ready

pub walk_node-requires-clause-can : goal.walk_node-requires-clause-can
unfolding env
walk_node-requires-clause-can c =
    let s = source_of c.args.steps.now in
    let e = expression s.structs c.args.e.now in
    let taken = and_parts (names_temps s.structs c.args.e.now) (constants_fit s e) c.requires.takes in
    gates.can _ c.args.temps.now c.as_slice.ensures.value _ (want_of c.args.want) e c.wanted.ensures c.requires.can taken.1

pub returns-clause-made : goal.returns-clause-made
unfolding env
returns-clause-made c =
    let e = expression (source_of c.args.steps.now).structs c.args.e.now in
    gates.made _ c.args.temps.now c.as_slice.ensures.value _ _ _ e _ c.walk_node.new.stored c.args.on c.sure_of-sure.result
    c.in_ok-ends.ends c.walk_node.new.ends c.in_ok-val.val
    c.in_ok-val.ensures.grown c.requires.on c.sure_of-sure.ensures.below (c.in_ok-ends.ensures.locations ∙ c.count.ensures) c.in_ok-val.ensures.ok

pub returns-clause-ok : goal.returns-clause-ok
unfolding env
returns-clause-ok c =
    let s = source_of c.args.steps.now in
    let e = expression s.structs c.args.e.now in
    gates.evaluates _ c.args.temps.now c.as_slice.ensures.value _ _ _ (want_of c.args.want) e _ _ c.args.on c.sure_of-sure.result
    c.in_ok-ends.ends c.walk_node.new.ends
    c.in_ok-val.val c.wanted.ensures c.in_ok-val.ensures.grown c.in_ok-ends.ensures.begun c.sure_of-sure.ensures.usable c.in_ok-val.ensures.ok
