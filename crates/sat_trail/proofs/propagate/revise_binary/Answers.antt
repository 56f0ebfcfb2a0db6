-- Each clause in turn.
use Rattle.sat_trail.proofs.FollowLemmas.{extends_refl, extends_trans}
use Rattle.sat_trail.proofs.propagate.revise_binary.Goals as goal

pub loop-watch-init : goal.loop-watch-init
loop-watch-init c = extends_refl c.args.clauses.now.given c.args.trail.now

pub returns-then-is_some : goal.returns-then-is_some
returns-then-is_some c = (extends_trans _ _ _ _ c.loop-watch.invariant c.visit_binary-found.ensures.0, c.visit_binary-found.ensures.1)

pub loop-watch-preserved : goal.loop-watch-preserved
loop-watch-preserved c = extends_trans _ _ _ _ c.loop-watch.invariant c.visit_binary-found.ensures.0
