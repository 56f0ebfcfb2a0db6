-- The law itself.
use Rattle.sat_base.proofs.Certifying.{rup_holds}
use Rattle.sat_base.proofs.laws.rup_clauses_hold.Goals as goal

pub returns : goal.returns
returns c = rup_holds
