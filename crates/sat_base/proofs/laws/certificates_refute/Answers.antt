-- The law itself.
use Rattle.sat_base.proofs.Certifying.{none_certified}
use Rattle.sat_base.proofs.laws.certificates_refute.Goals as goal

pub returns : goal.returns
returns c = none_certified
