-- What the clause says follows from the clauses.
use Rattle.sat_trail.proofs.FollowLemmas.{look_of}
use Rattle.sat_trail.proofs.propagate.look_at.Goals as goal

pub returns-in-Some : goal.returns-in-Some
returns-in-Some c = look_of c.args.trail.now.steps c.args.clauses.now.given _ c.examine.result c.in-Some.ensures.entailed c.examine.ensures
