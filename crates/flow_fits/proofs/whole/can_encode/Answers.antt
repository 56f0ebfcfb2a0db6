use Rattle.std.proofs.Common.{map, sym, ◌∙◌, ap, subst}
use Rattle.flow_graph.specs.Conditions.{AllFine}
use Rattle.flow_graph.specs.Unrolled.{flow}
use Rattle.flow_exits.specs.Exits.{ending_flow}
use Rattle.layout_base.specs.Seen.{ground_of, layout_of}
use Rattle.sc_flow.specs.Seen.{node}
use Rattle.flow_fits.proofs.Passing.{refused, answered, passes}
use Rattle.flow_fits.proofs.whole.can_encode.Goals as goal

pub without_values-requires : goal.without_values-requires
unfolding ground_of
without_values-requires c =
    record {
      fine = subst (λ f. AllFine f.temps f.slots f.nodes) (sym c.requires.unrolled) (c.nodes_are_fine.ensures (ground_of c.args.ground.now).source);
    }

pub returns-then-not-gives_scalars-clause-exactly : goal.returns-then-not-gives_scalars-clause-exactly
unfolding ground_of
returns-then-not-gives_scalars-clause-exactly c =
    let s = (ground_of c.args.ground.now).source in
    let p = layout_of c.args.layout.now.places.now in
    refused s p (map (node s.structs) c.in_ok-ended.ended.nodes) (ap (λ f. f.nodes) (c.in_ok-ended.ensures.seen ∙ ap (ending_flow p) c.requires.unrolled))
    c.gives_scalars.result c.gives_scalars.ensures c.if-not-gives_scalars.true

pub reads_no_void-requires : goal.reads_no_void-requires
unfolding ground_of
reads_no_void-requires c =
    let s = (ground_of c.args.ground.now).source in
    let p = layout_of c.args.layout.now.places.now in
    record {
      fine =
          subst (λ f. AllFine f.temps f.slots f.nodes) (sym (c.in_ok-ended.ensures.seen ∙ ap (ending_flow p) c.requires.unrolled))
          ((c.nodes_stay.ensures p (flow s).nodes).fine (flow s).temps (flow s).slots (c.nodes_are_fine.ensures s));
    }

pub returns-clause-exactly : goal.returns-clause-exactly
unfolding ground_of
returns-clause-exactly c =
    let s = (ground_of c.args.ground.now).source in
    let p = layout_of c.args.layout.now.places.now in
    answered s p (map (node s.structs) c.in_ok-ended.ended.nodes) (ap (λ f. f.nodes) (c.in_ok-ended.ensures.seen ∙ ap (ending_flow p) c.requires.unrolled))
    c.gives_scalars.result c.gives_scalars.ensures c.if-not-gives_scalars.false c.in_ok-can.can c.in_ok-can.ensures c.function_fits.result
    c.function_fits.ensures.exactly c.if-not-function_fits.false

pub returns-clause-can : goal.returns-clause-can
unfolding ground_of
returns-clause-can c =
    let s = (ground_of c.args.ground.now).source in
    let p = layout_of c.args.layout.now.places.now in
    let fits = c.function_fits.ensures.fits c.if-not-function_fits.false in
    passes s p (map (node s.structs) c.in_ok-ended.ended.nodes) (ap (λ f. f.nodes) (c.in_ok-ended.ensures.seen ∙ ap (ending_flow p) c.requires.unrolled))
    c.gives_scalars.result c.gives_scalars.ensures c.if-not-gives_scalars.false c.in_ok-can.can c.in_ok-can.ensures
    c.temps_are_of_one_type.ensures c.nodes_stay.ensures fits
