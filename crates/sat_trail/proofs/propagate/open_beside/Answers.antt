-- One literal more is not open.
use Rattle.std.proofs.Common.{refl}
use Rattle.sat_trail.proofs.FollowLemmas.{others_more}
use Rattle.sat_trail.proofs.propagate.open_beside.Goals as goal

pub loop-lit-preserved : goal.loop-lit-preserved
loop-lit-preserved c =
    others_more _ c.args.clause.now c.args.other c.loop-lit.lit-index _ c.loop-lit-test.true (c.if-not-is_other_or_false.ensures refl) c.loop-lit.invariant
