use Rattle.bit_net.specs.Runs.{Grown}
use Rattle.tr_walk.specs.Walks.{CanBegin}
use Rattle.expr_tests.proofs.body.all_made.Given as goal

-- the net has only grown, and the next expression can begin where the run goes on
abbrev pub invariant-loop-part : goal.invariant-loop-part
invariant-loop-part l = record {
  grown : Grown l.fn.net l.net;
  ready : CanBegin l.around l.net l.stored.locations.items l.live.at;
}
