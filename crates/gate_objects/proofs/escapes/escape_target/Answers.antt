use Rattle.gate_objects.proofs.Escaping.{escapes_target}
use Rattle.gate_objects.proofs.escapes.escape_target.Goals as goal

pub returns-clause-ok : goal.returns-clause-ok
returns-clause-ok c = escapes_target _ _ _ c.args.ends.now _ _ _ _ c.in_ok-mark_target.ensures.grown c.in_ok-object.ensures.ok c.in_ok-mark_target.ensures.ok
