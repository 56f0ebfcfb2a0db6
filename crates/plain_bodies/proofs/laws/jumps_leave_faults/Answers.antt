use Rattle.plain_bodies.proofs.Jumped.{jumps_kept}
use Rattle.plain_bodies.proofs.laws.jumps_leave_faults.Goals as goal

pub returns : goal.returns
returns c = λ tags j. jumps_kept j
