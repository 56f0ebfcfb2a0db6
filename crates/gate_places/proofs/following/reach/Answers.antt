use Rattle.gate_places.proofs.Reaching.{does_reach}
use Rattle.gate_places.proofs.following.reach.Goals as goal

pub returns-clause-ok : goal.returns-clause-ok
returns-clause-ok c =
    does_reach _ _ _ _ _ _ _ _ _ _ _ c.in_ok-check_target-2.ensures.grown c.in_ok-check_target-3.ensures.grown c.in_ok-check_target.ensures.ok
    c.in_ok-check_target-2.ensures.ok c.in_ok-check_target-3.ensures.ok
