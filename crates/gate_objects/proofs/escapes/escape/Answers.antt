use Rattle.gate_objects.proofs.Escaping.{does_escape}
use Rattle.gate_objects.proofs.escapes.escape.Goals as goal

pub returns-clause-ok : goal.returns-clause-ok
returns-clause-ok c = does_escape _ _ _ c.args.ends.now c.args.val.now _ _ _ c.in_ok-escape_target.ensures.grown c.in_ok-pointer.ensures c.in_ok-escape_target.ensures.ok
