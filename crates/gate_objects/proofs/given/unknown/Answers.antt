use Rattle.gate_objects.proofs.Giving.{does_unknown}
use Rattle.gate_objects.proofs.given.unknown.Goals as goal

pub returns-clause-ok : goal.returns-clause-ok
returns-clause-ok c =
    does_unknown _ _ _ _ c.args.ends.now _ _ c.args.vals.now _ _ _ _ c.in_ok-r.ensures.grown c.in_ok-escape_all.ensures.ok c.in_ok-r.ensures.ok
