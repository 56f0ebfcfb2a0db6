-- One gate more is closed.
use Rattle.std.proofs.Common.{◌-◌, length, refl, ◌∙◌, arith}
use Rattle.net_goals.proofs.Marks.{closed_more}
use Rattle.net_goals.proofs.cone.close_all.Goals as goal

pub loop-at-init : goal.loop-at-init
loop-at-init c = record {
  room = omega arith;
  width = refl;
  kept = λ g marked. marked;
  closed = λ g past inside. absurd (omega arith);
}

pub loop-at-preserved : goal.loop-at-preserved
loop-at-preserved c =
    let so_far = c.loop-at.invariant in
    let room = so_far.room in
    let test = c.loop-at-test.true in
    let closing = c.close_at.ensures in
    record {
      room = omega (arith, room);
      width = closing.width ∙ so_far.width;
      kept = λ g marked. closing.kept g (so_far.kept g marked);
      closed =
          closed_more c.args.net.now (c.loop-at.at - 1) c.loop-at.marks _ (length c.args.marks.now) closing
          (λ a past inside. so_far.closed a (omega (arith, past, test)) inside);
    }
