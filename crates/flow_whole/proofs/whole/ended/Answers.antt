use Rattle.layout_base.specs.Seen.{ground_of, layout_of}
use Rattle.run_world.specs.Seen.{env}
use Rattle.flow_fills.specs.Laid as looked
use Rattle.flow_whole.proofs.Beginning.{fine_as, nodes_as, seen_as}
use Rattle.flow_whole.proofs.whole.ended.Goals as goal

pub without_values-requires : goal.without_values-requires
unfolding env ground_of
without_values-requires g c =
    record {
      fine = fine_as (g.S.Steps.source c.args.graph.now.steps.now) (looked.source_of c.args.laid.now) c.args.graph.now.flow.now c.requires.laid.source c.requires.fine;
    }

pub returns-in-Ok-clause-nodes : goal.returns-in-Ok-clause-nodes
unfolding env ground_of
returns-in-Ok-clause-nodes g c =
    nodes_as (g.S.Steps.source c.args.graph.now.steps.now) (looked.source_of c.args.laid.now) (g.S.Steps.layout c.args.graph.now.steps.now)
    (looked.layout_of c.args.laid.now) (layout_of c.args.laid.now.layout.now.places.now) c.args.graph.now.flow.now.nodes c.in-Ok.flow.nodes
    c.requires.laid.source c.requires.laid.layout c.requires.laid.looked.same c.in-Ok.ensures.nodes

pub returns-in-Ok-clause-seen : goal.returns-in-Ok-clause-seen
unfolding env ground_of
returns-in-Ok-clause-seen g c =
    seen_as (g.S.Steps.source c.args.graph.now.steps.now) (looked.source_of c.args.laid.now) (g.S.Steps.layout c.args.graph.now.steps.now)
    (looked.layout_of c.args.laid.now) (layout_of c.args.laid.now.layout.now.places.now) c.args.graph.now.flow.now c.in-Ok.flow
    c.requires.laid.source c.requires.laid.layout c.requires.laid.looked.same c.in-Ok.ensures.seen
