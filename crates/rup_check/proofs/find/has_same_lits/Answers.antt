-- Each is within the other.
use Rattle.std.proofs.lemmas.Bool.{false≢true}
use Rattle.rup_check.proofs.FindingLemmas.{same_fails, same_holds}
use Rattle.rup_check.proofs.find.has_same_lits.Goals as goal

pub returns-then-not-has_all-clause-same : goal.returns-then-not-has_all-clause-same
returns-then-not-has_all-clause-same c = (
  (λ yes. absurd (false≢true yes)),
  (λ h. absurd (same_fails c.args.one.now c.args.other.now c.set_to.new.self.lits c.has_all.result c.in_ok-set_to.ensures.set c.has_all.ensures
      c.if-not-has_all.true h)),
)

pub returns-clause-same : goal.returns-clause-same
returns-clause-same c =
    same_holds c.args.one.now c.args.other.now c.set_to.new.self.lits c.set_to-2.new.self.lits c.has_all.result c.has_all-all.result
    c.in_ok-set_to.ensures.set c.has_all.ensures c.if-not-has_all.false c.in_ok-set_to-2.ensures.set c.has_all-all.ensures
