-- By opposed assumptions, or by a resolvent that has only negations of assumptions.
use Rattle.std.proofs.Common.{subst}
use Rattle.sat_cdcl.specs.Certified.{AreAssumedFalse}
use Rattle.sat_cdcl.proofs.InferredLemmas.{refuted_opposed, refuted_inferred}
use Rattle.sat_cdcl.proofs.certify.is_refuted.Goals as goal

pub returns-then-are_opposed-clause-refuted : goal.returns-then-are_opposed-clause-refuted
returns-then-are_opposed-clause-refuted c _ =
    refuted_opposed c.args.search.now.clauses c.args.assumed.now (c.are_opposed.ensures c.if-are_opposed.true)

pub returns-then-done-clause-refuted : goal.returns-then-done-clause-refuted
returns-then-done-clause-refuted c sure =
    refuted_inferred c.args.search.now.clauses c.args.assumed.now c.unwind.new.resolvent (c.in_ok-done.ensures.inferred c.if-done.true)
    (subst (λ lits. AreAssumedFalse lits c.args.assumed.now) c.lits.ensures (c.are_assumed_false.ensures sure))
