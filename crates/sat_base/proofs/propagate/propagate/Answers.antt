-- One pass more narrows further.
use Rattle.sat_base.proofs.Passing.{narrows_further}
use Rattle.sat_base.proofs.propagate.propagate.Goals as goal

pub returns-in-Satisfied : goal.returns-in-Satisfied
returns-in-Satisfied c = (narrows_further _ _ _ _ c.loop-var.invariant c.in-Satisfied.ensures.0, c.in-Satisfied.ensures.1)

pub returns-in-Open : goal.returns-in-Open
returns-in-Open c = (narrows_further _ _ _ _ c.loop-var.invariant c.in-Open.ensures.0, c.in-Open.ensures.1)

pub loop-var-preserved : goal.loop-var-preserved
loop-var-preserved c = narrows_further _ _ _ _ c.loop-var.invariant c.in-Changed.ensures.0
