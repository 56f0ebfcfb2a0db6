-- The clause by its parts.
use Rattle.std.proofs.Common.{subst, sym}
use Rattle.sat_trail.specs.Looks.{IsClauseLook}
use Rattle.sat_trail.proofs.FollowLemmas.{examined}
use Rattle.sat_trail.proofs.propagate.examine.Goals as goal

pub returns : goal.returns
returns c =
    subst (IsClauseLook c.args.trail.now.steps c.args.clause.now) (sym c.look_from.ensures)
    (examined c.args.trail.now.steps c.len-len.result c.args.clause.now c.args.other c.open_beside-open_one.result c.is_false_before-is_false.result
    c.len-len.ensures.len c.open_beside-open_one.ensures c.is_false_before-is_false.ensures)
