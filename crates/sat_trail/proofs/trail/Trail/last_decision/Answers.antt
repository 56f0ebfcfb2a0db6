-- One step more is implied, or is a decision.
use Rattle.std.proofs.Common.{◌≡◌, ◌-◌, ◌+◌, drop, sym, subst, arith}
use Rattle.sat_trail.specs.Steps.{AllImplied}
use Rattle.sat_trail.proofs.PlaceLemmas.{drop_at}
use Rattle.sat_clauses.proofs.TruthLemmas.{not_false}
use Rattle.sat_trail.proofs.trail.Trail.last_decision.Goals as goal

pub loop-behind-preserved : goal.loop-behind-preserved
loop-behind-preserved c =
    let steps = c.args.self.now.steps in
    let behind = c.loop-behind.behind in
    let bound = c.loop-behind.invariant.0 in
    let some = c.loop-behind-test.true in
    let next : behind ≡ behind - 1 + 1 = omega (arith, some) in (
      omega (arith, bound),
      subst AllImplied (sym (drop_at steps (behind - 1) c.at-step.result c.at-step.ensures))
          (not_false _ c.if-not-step.false, subst (λ k. AllImplied (drop k steps)) next c.loop-behind.invariant.1),
    )
