use Rattle.verify_runs.proofs.Answered.{Keeps-itself, malformed_given}
use Rattle.verify_runs.proofs.verify.say_finding.Goals as goal

pub returns-in-Malformed : goal.returns-in-Malformed
returns-in-Malformed g c = malformed_given _ _ _ _ _ _ _ c.in-Malformed.is c.requires c.say-in-Malformed.ensures (Keeps-itself _)
