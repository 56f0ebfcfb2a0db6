-- A decision more, or none.
use Rattle.std.proofs.Common.{refl}
use Rattle.sat_trail.proofs.FollowLemmas.{decided_put}
use Rattle.sat_trail.proofs.decisions.decide_sign.Goals as goal

pub returns : goal.returns
returns c =
    decided_put c.args.trail.now c.put.new.self c.len-len.result _ c.args.var c.put.result c.len-len.ensures.len refl refl c.put.ensures.vars c.put.ensures.room
    c.put.ensures.put
