-- What was resolved, and then shrunk.
use Rattle.sat_cdcl.proofs.analyse.analyse.Goals as goal

pub returns-clause-inferred : goal.returns-clause-inferred
returns-clause-inferred c = λ _. c.in_ok-shrink.ensures.inferred (c.in_ok-done.ensures.inferred c.if-not-done.false)
