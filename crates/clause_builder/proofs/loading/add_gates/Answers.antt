-- One gate more.
use Rattle.std.proofs.Common.{◌∙◌, arith}
use Rattle.clause_builder.proofs.Clauses.{fresh_more}
use Rattle.clause_builder.proofs.Places.{operands_from_reads}
use Rattle.clause_builder.proofs.Values.{adds_gate}
use Rattle.clause_builder.proofs.loading.add_gates.Goals as goal

pub add_gate-requires-clause-operands : goal.add_gate-requires-clause-operands
add_gate-requires-clause-operands g c =
    operands_from_reads c.loop-at.at _ _ c.node-node.result (omega arith) (c.sound.ensures.earlier _ _ c.node-node.ensures)

pub returns-in_err-add_gate-clause-fresh : goal.returns-in_err-add_gate-clause-fresh
returns-in_err-add_gate-clause-fresh g c base all =
    fresh_more base _ _ _ (c.loop-at.invariant.2 base all) (c.add_gate.ensures.fresh base all)

pub loop-at-preserved : goal.loop-at-preserved
loop-at-preserved g c = (
  c.add_gate.ensures.vars ∙ c.loop-at.invariant.0,
  adds_gate _ _ _ _ _ c.loop-at.at c.node-node.result c.node-node.ensures c.loop-at.invariant.1 c.in_ok-add_gate.ensures.ok,
  λ base all. fresh_more base _ _ _ (c.loop-at.invariant.2 base all) (c.add_gate.ensures.fresh base all),
)
