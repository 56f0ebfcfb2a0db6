use Rattle.gate_objects.proofs.Releasing.{does_release}
use Rattle.gate_objects.proofs.releases.release.Goals as goal

pub returns-clause-ok : goal.returns-clause-ok
returns-clause-ok c = does_release _ _ c.args.val.now _ _ _ _ c.in_ok-free.ensures.ok
