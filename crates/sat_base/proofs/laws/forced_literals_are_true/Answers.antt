-- The law itself.
use Rattle.sat_base.proofs.Certifying.{forced_true}
use Rattle.sat_base.proofs.laws.forced_literals_are_true.Goals as goal

pub returns : goal.returns
returns c = forced_true
