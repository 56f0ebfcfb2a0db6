-- The law itself.
use Rattle.rup_check.proofs.AlikeLemmas.{refused_not_certified}
use Rattle.rup_check.proofs.laws.refused_steps_are_no_certificate.Goals as goal

pub returns : goal.returns
returns c = refused_not_certified
