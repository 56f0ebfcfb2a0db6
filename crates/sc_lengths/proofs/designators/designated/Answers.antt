use Rattle.sc_typing.specs.Tables.{here_of}
use Rattle.sc_lengths.proofs.Ahead.{one_more}
use Rattle.sc_lengths.proofs.designators.designated.Goals as goal

pub loop-d-preserved : goal.loop-d-preserved
loop-d-preserved c =
    one_more (here_of c.args.here.now) c.loop-d.at c.in_ok-at-in-Some.at c.d-item.result c.args.designators.now c.loop-d.d-index c.loop-d.way c.push.new.self
    c.in_ok-designated_part.field-0 c.in-Some.k c.loop-d.walk c.designated_part.new.walk c.as_slice.result.now _
    c.loop-d-test.true c.d-item.is c.in_ok-designated_part.ensures c.in-Some.is c.in_ok-at-in-Some.ensures c.as_slice.ensures
    c.in_ok-push-in-Some.ensures.ok c.loop-d.invariant
