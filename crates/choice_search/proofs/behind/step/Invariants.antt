use Rattle.choice_search.proofs.Steps.{Turning}
use Rattle.choice_search.proofs.behind.step.Given as goal

abbrev pub invariant-loop-at : goal.invariant-loop-at
invariant-loop-at l = Turning l.fn.choice l.choice l.at

abbrev pub decreases-loop-at : goal.decreases-loop-at
decreases-loop-at l = l.at
