-- Each step in turn.
use Rattle.sat_trail.proofs.FollowLemmas.{extends_refl, extends_trans}
use Rattle.sat_trail.proofs.propagate.propagate.Goals as goal

pub loop-place-init : goal.loop-place-init
loop-place-init c = extends_refl c.args.clauses.now.given c.args.trail.now

pub returns-then-is_some : goal.returns-then-is_some
returns-then-is_some c = (extends_trans _ _ _ _ c.loop-place.invariant c.in_ok-found.ensures.0, c.in_ok-found.ensures.1)

pub loop-place-preserved : goal.loop-place-preserved
loop-place-preserved c = extends_trans _ _ _ _ c.loop-place.invariant c.in_ok-found.ensures.0
