use Rattle.std.proofs.Common.{refl, ◌∙◌}
use Rattle.sc_flow.specs.Seen.{all_of, calling}
use Rattle.run_world.specs.Seen.{env}
use Rattle.tr_flow.specs.Seen.{layout_of, source_of}
use Rattle.tr_flow.proofs.Called as gates
use Rattle.tr_flow.proofs.calling.call.Goals as goal

pub call-requires-clause-ready : goal.call-requires-clause-ready
unfolding env
call-requires-clause-ready c =
    let x = c.args.steps.now in
    let s = source_of x in
    let t = c.args.temps.now in
    let ns = all_of c.args.arguments in
    let are = gates.of_slice t ns _ _ c.as_slice.ensures.value c.in_ok-values.ensures in
    gates.ready s (layout_of x) t (calling s.structs c.args.calling.now) ns _ are _ c.args.store.now _ x.whole c.requires.inputs c.requires.store
    c.requires.temps c.in_ok-ends.ensures.ready (c.in_ok-ends.ensures.locations ∙ c.count.ensures)

pub call-requires-clause-same : goal.call-requires-clause-same
unfolding env
call-requires-clause-same c = refl

pub call-requires-clause-first : goal.call-requires-clause-first
unfolding env
call-requires-clause-first c =
    let x = c.args.steps.now in
    let s = source_of x in
    let t = c.args.temps.now in
    let ns = all_of c.args.arguments in
    let are = gates.of_slice t ns _ _ c.as_slice.ensures.value c.in_ok-values.ensures in
    gates.first s (layout_of x) t (calling s.structs c.args.calling.now) ns _ are c.requires.can

pub returns-clause-made : goal.returns-clause-made
unfolding env
returns-clause-made c =
    let x = c.args.steps.now in
    let s = source_of x in
    let t = c.args.temps.now in
    let ns = all_of c.args.arguments in
    let are = gates.of_slice t ns _ _ c.as_slice.ensures.value c.in_ok-values.ensures in
    gates.made s (layout_of x) t (calling s.structs c.args.calling.now) ns _ are _ _ _ c.call.new.stored c.args.on c.constant-sure.result _ _ _
    c.in_ok-val.ensures.grown c.requires.on c.constant-sure.ensures (c.in_ok-ends.ensures.locations ∙ c.count.ensures) c.in_ok-val.ensures.ok

pub returns-clause-ok : goal.returns-clause-ok
unfolding env
returns-clause-ok c =
    let x = c.args.steps.now in
    let s = source_of x in
    let t = c.args.temps.now in
    let ns = all_of c.args.arguments in
    let are = gates.of_slice t ns _ _ c.as_slice.ensures.value c.in_ok-values.ensures in
    gates.calls s (layout_of x) t (calling s.structs c.args.calling.now) ns _ are _ _ _ _ c.args.on c.constant-sure.result _ _ _
    c.in_ok-val.ensures.grown c.in_ok-ends.ensures.begun c.constant-sure.ensures c.in_ok-val.ensures.ok
