use Rattle.gate_places.proofs.Dereferencing.{does_follow}
use Rattle.gate_places.proofs.following.dereference.Goals as goal

pub returns-clause-ok : goal.returns-clause-ok
returns-clause-ok c =
    does_follow _ _ _ _ _ _ _ _ _ _ _ _ _ c.in_ok-check_target-2.ensures.grown c.in_ok-check_target-3.ensures.grown c.in_ok-check_target-4.ensures.grown
    c.in_ok-check_target.ensures.ok c.in_ok-check_target-2.ensures.ok c.in_ok-check_target-3.ensures.ok c.in_ok-check_target-4.ensures.ok
