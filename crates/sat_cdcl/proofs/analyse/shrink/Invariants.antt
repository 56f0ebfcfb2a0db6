use Rattle.sat_clauses.specs.Held.{Entails}
use Rattle.sat_clauses.specs.Certified.{IsInferred}
use Rattle.sat_cdcl.proofs.analyse.shrink.Given as goal

abbrev pub invariant-loop-behind : goal.invariant-loop-behind
invariant-loop-behind l = record {
  entailed : Entails l.clauses.given l.fn.resolvent → Entails l.clauses.given l.resolvent;
  inferred : IsInferred l.clauses l.fn.resolvent → IsInferred l.clauses l.resolvent;
}

abbrev pub decreases-loop-behind : goal.decreases-loop-behind
decreases-loop-behind l = l.behind
