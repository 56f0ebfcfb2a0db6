use Rattle.transfer.proofs.Transfers.{HasWritten-more}
use Rattle.transfer.proofs.write_all.Goals as goal

pub loop-written-preserved : goal.loop-written-preserved
loop-written-preserved g c =
    HasWritten-more _ _ _ _ _ _ _ _ _ c.loop-written.invariant c.write.ensures.cause.later c.in_ok-written.ensures.bound
    c.in_ok-written.ensures.bytes
