-- Each short clause in turn.
use Rattle.sat_trail.proofs.FollowLemmas.{extends_refl, extends_trans}
use Rattle.sat_trail.proofs.propagate.begin.Goals as goal

pub loop-i-init : goal.loop-i-init
loop-i-init c = extends_refl c.args.clauses.now.given c.args.trail.now

pub returns-then-is_some : goal.returns-then-is_some
returns-then-is_some c = (extends_trans _ _ _ _ c.loop-i.invariant c.begin_short-found.ensures.0, c.begin_short-found.ensures.1)

pub loop-i-preserved : goal.loop-i-preserved
loop-i-preserved c = extends_trans _ _ _ _ c.loop-i.invariant c.begin_short-found.ensures.0
