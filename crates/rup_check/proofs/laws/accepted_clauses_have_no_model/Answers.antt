-- The law of certificates.
use Rattle.rup_check.proofs.laws.accepted_clauses_have_no_model.Goals as goal

pub returns : goal.returns
returns c = c.certificates_refute.ensures
