use Rattle.std.proofs.Common.{arith}
use Rattle.fn_walks.proofs.Stepping.{covers_done, covers_none}
use Rattle.fn_walks.proofs.leading.through.Goals as goal

pub loop-k-init : goal.loop-k-init
loop-k-init c = record { covers = covers_none _ _ _ }

pub loop-k-preserved : goal.loop-k-preserved
loop-k-preserved c = record { covers = c.in_ok-put_object.ensures.ok c.loop-k.invariant.covers }

pub returns : goal.returns
returns c = covers_done _ _ _ c.loop-k.k (omega (arith, c.count-k-end.ensures.count)) c.loop-k.invariant.covers
