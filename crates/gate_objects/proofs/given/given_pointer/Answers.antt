use Rattle.gate_objects.proofs.Giving.{given_pointer}
use Rattle.gate_objects.proofs.given.given_pointer.Goals as goal

pub returns-clause-ok : goal.returns-clause-ok
returns-clause-ok c =
    given_pointer _ _ _ _ c.args.ends.now _ _ _ _ c.in_ok-object.object c.requires.pointer c.in_ok-escape_target.ensures.grown c.in_ok-object.ensures.ok
    c.in_ok-escape_target.ensures.ok
