use Rattle.gate_objects.proofs.Giving.{does_allocate}
use Rattle.gate_objects.proofs.given.allocate.Goals as goal

pub returns-clause-ok : goal.returns-clause-ok
returns-clause-ok c =
    does_allocate _ _ _ c.args.ends.now _ _ _ c.in_ok-object.object c.in_ok-mark_target.ensures.grown c.in_ok-object.ensures.ok c.in_ok-mark_target.ensures.ok
