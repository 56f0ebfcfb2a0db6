-- One literal less, or none.
use Rattle.sat_cdcl.proofs.analyse.shrink.Goals as goal

pub loop-behind-preserved : goal.loop-behind-preserved
loop-behind-preserved c = record {
  entailed = λ h. c.in_ok-shrink_one.ensures.entailed (c.loop-behind.invariant.entailed h);
  inferred = λ h. c.in_ok-shrink_one.ensures.inferred (c.loop-behind.invariant.inferred h);
}
