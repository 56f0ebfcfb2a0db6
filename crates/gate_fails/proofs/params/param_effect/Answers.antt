use Rattle.gate_fails.proofs.Acting.{does_effect}
use Rattle.gate_fails.proofs.params.param_effect.Goals as goal

pub returns-clause-ok : goal.returns-clause-ok
returns-clause-ok c =
    does_effect _ c.args.net.now _ _ _ _ c.args.bit c.args.val.now _ c.in_ok-escaping.escaping c.in_ok-freed.freed _ _ _ _ _
    c.in_ok-escaping.ensures.grown c.in_ok-freed.ensures.grown c.in_ok-escape.ensures.grown c.in_ok-free.ensures.grown c.in_ok-pointer.ensures
    c.in_ok-escaping.ensures.ok c.in_ok-freed.ensures.ok c.in_ok-escape.ensures.ok c.in_ok-free.ensures.ok
