use Rattle.std.proofs.Common.{length, ◌-◌}
use Rattle.transfer.proofs.Transfers.{HasWritten}
use Rattle.transfer.proofs.write_all.Given as goal

abbrev pub invariant-loop-written : goal.invariant-loop-written
invariant-loop-written g l = HasWritten (record {
  faults_before = g.S.Sink.faults l.fn.sink;
  faults_after = g.S.Sink.faults l.sink;
  before = g.S.Sink.taken l.fn.sink;
  after = g.S.Sink.taken l.sink;
}) l.bytes l.written

abbrev pub decreases-loop-written : goal.decreases-loop-written
decreases-loop-written g l = length l.bytes - l.written
