-- A step more, or none.
use Rattle.sat_trail.proofs.FollowLemmas.{extends_put}
use Rattle.sat_trail.proofs.propagate.imply.Goals as goal

pub returns : goal.returns
returns c clauses given =
    extends_put clauses c.args.trail.now c.put.new.self c.len-len.result _ c.put.result c.len-len.ensures.len c.put.ensures.put c.put.ensures.vars given
