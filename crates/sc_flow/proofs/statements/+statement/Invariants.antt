use Rattle.std.proofs.Common.{◌≡◌, ◌+◌, ◌-◌, ◌<◌, ◌≤◌, length, drop}
use Rattle.sc_gather.specs.Seen.{statements_of}
use Rattle.scopes.specs.Frames.{closed}
use Rattle.sc_world.specs.View.{exp, stm}
use Rattle.sum_rows.specs.declared.report.What.TheVariants as what
use Rattle.flow_graph.specs.Expressions.{unroll}
use Rattle.flow_graph.specs.Statements as spec
use Rattle.sc_flow.specs.Seen.{structs_of, growing, opened, targets, expression_if}
use Rattle.sc_flow.proofs.statements.+statement.Given as goal

abbrev pub invariant-items-loop-k : goal.invariant-items-loop-k
invariant-items-loop-k l = record {
  made :
      (opened l.opened l.labels, growing (structs_of l.here) l.g)
      ≡ spec.unroll_stms l.depth (statements_of (structs_of l.here) (drop l.k l.list)) l.turn (targets l.ways l.fn.labels)
      (growing (structs_of l.fn.here) l.fn.g);
  round : closed l.labels ≡ l.fn.labels;
  within : 0 < length l.labels.blocks;
  few : l.k ≤ length l.list;
}

abbrev pub decreases-items-loop-k : goal.decreases-items-loop-k
decreases-items-loop-k l = l.k

abbrev pub invariant-turns-loop-t : goal.invariant-turns-loop-t
invariant-turns-loop-t l = record {
  made :
      (l.at, growing (structs_of l.here) l.g)
      ≡ spec.while_turns (l.depth - l.t) l.t
      (λ t. spec.test_or_true (expression_if (structs_of l.here) l.e) (spec.turn_of l.turn (l.depth + 1) t) l.pos)
      (λ t. spec.with_step (spec.unroll_stm l.depth (stm (structs_of l.here) l.s) (spec.turn_of l.turn l.depth t))
      (spec.dropped_if (expression_if (structs_of l.here) l.step) (spec.turn_of l.turn l.depth t)))
      (targets l.ways l.fn.labels) (growing (structs_of l.fn.here) l.fn.g);
  labels : l.labels ≡ l.fn.labels;
  few : l.t ≤ l.depth;
}

abbrev pub decreases-turns-loop-t : goal.decreases-turns-loop-t
decreases-turns-loop-t l = l.t

abbrev pub invariant-do_turns-loop-t : goal.invariant-do_turns-loop-t
invariant-do_turns-loop-t l = record {
  made :
      (l.at, growing (structs_of l.here) l.g)
      ≡ spec.do_turns (l.depth - l.t) l.t
      (λ t. spec.tested (unroll (exp (structs_of l.here) l.e) (spec.turn_of l.turn l.depth t)) l.pos what.Loop)
      (λ t. spec.unroll_stm l.depth (stm (structs_of l.here) l.s) (spec.turn_of l.turn l.depth t))
      (targets l.ways l.fn.labels) (growing (structs_of l.fn.here) l.fn.g);
  labels : l.labels ≡ l.fn.labels;
  few : l.t ≤ l.depth;
}

abbrev pub decreases-do_turns-loop-t : goal.decreases-do_turns-loop-t
decreases-do_turns-loop-t l = l.t
