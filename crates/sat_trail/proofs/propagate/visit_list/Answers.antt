-- Each entry of the list in turn.
use Rattle.sat_trail.proofs.FollowLemmas.{extends_refl, extends_trans}
use Rattle.sat_trail.proofs.propagate.visit_list.Goals as goal

pub loop-entry-init : goal.loop-entry-init
loop-entry-init c = extends_refl c.args.clauses.now.given c.args.trail.now

pub returns-then-is_some : goal.returns-then-is_some
returns-then-is_some c = (extends_trans _ _ _ _ c.loop-entry.invariant c.in_ok-found.ensures.0, c.in_ok-found.ensures.1)

pub loop-entry-preserved : goal.loop-entry-preserved
loop-entry-preserved c = extends_trans _ _ _ _ c.loop-entry.invariant c.in_ok-found.ensures.0
