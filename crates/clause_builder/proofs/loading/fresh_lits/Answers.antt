-- One variable more.
use Rattle.std.proofs.Common.{◌∙◌, arith}
use Rattle.clause_builder.proofs.Values.{more_lits, unused_more}
use Rattle.clause_builder.proofs.loading.fresh_lits.Goals as goal

pub loop-gate-preserved : goal.loop-gate-preserved
loop-gate-preserved g c =
    let so_far = c.loop-gate.invariant in
    let fresh = c.in_ok-var.ensures in (
      more_lits _ _ _ c.loop-gate._gate c.in_ok-var.var _ c.in_ok-push.ensures.items so_far.0 fresh.ok.0 so_far.1,
      omega (arith, fresh.ok.1, so_far.1),
      fresh.clauses ∙ so_far.2,
      λ some. unused_more _ c.loop-gate._gate _ _ _ so_far.1 so_far.2 so_far.3 fresh.unused,
    )
