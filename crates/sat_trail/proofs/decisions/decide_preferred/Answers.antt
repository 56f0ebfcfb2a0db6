-- The trail is as before until a decision is put.
use Rattle.std.proofs.Common.{subst}
use Rattle.sat_trail.specs.Decided.{IsDecision}
use Rattle.sat_trail.proofs.decisions.decide_preferred.Goals as goal

pub returns-in-Done : goal.returns-in-Done
returns-in-Done c = subst (λ t. IsDecision t c.decide_sign.new.trail) c.loop-literal.invariant c.in-Done.ensures
