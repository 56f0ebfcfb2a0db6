use Rattle.plain_bodies.proofs.Stated.{statements_kept}
use Rattle.plain_bodies.proofs.laws.plain_bodies_leave_nothing.Goals as goal

pub returns : goal.returns
returns c = λ tags here s i h. (statements_kept tags here s h).bare i
