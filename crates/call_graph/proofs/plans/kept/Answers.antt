use Rattle.std.proofs.Common.{get_or}
use Rattle.call_graph.proofs.Edges.{kept_more, cut_more}
use Rattle.call_graph.proofs.plans.kept.Goals as goal

pub loop-callee-preserved : goal.loop-callee-preserved
loop-callee-preserved c = (
  kept_more c.args.rows.now c.args.reaching.now c.args.caller c.loop-callee.callee-index c.args.row.now c.cuts.result c.loop-callee.kept _
      c.requires.tells c.requires.row c.loop-callee-test.true c.cuts.ensures c.loop-callee.invariant.0 c.in_ok-put_edge.ensures.kept,
  cut_more c.args.rows.now c.args.reaching.now c.args.caller c.loop-callee.callee-index c.args.row.now c.cuts.result c.args.cut.now c.loop-callee.cut _
      c.requires.tells c.requires.row c.loop-callee-test.true c.cuts.ensures c.loop-callee.invariant.1 c.in_ok-put_edge.ensures.cut,
)
