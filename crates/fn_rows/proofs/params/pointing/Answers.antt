use Rattle.fn_rows.proofs.Counts.{pointing_turn}
use Rattle.fn_rows.proofs.params.pointing.Goals as goal

pub loop-k-preserved : goal.loop-k-preserved
loop-k-preserved c =
    pointing_turn c.args.to c.args.params.now c.loop-k.k c.index-params-k.result c.loop-k.found.items _ _
    c.loop-k-test.true c.index-params-k.is c.in_ok-put_param.ensures c.loop-k.invariant
