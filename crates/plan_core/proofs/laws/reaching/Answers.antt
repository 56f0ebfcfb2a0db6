-- Each test is shown both ways.
use Rattle.plan_core.proofs.Reaching.{reach_from_test, test_from_reach}
use Rattle.plan_core.proofs.Plans.{IsCut_from_test, test_from_IsCut}
use Rattle.plan_core.proofs.laws.reaching.Goals as goal

pub returns-clause-walks : goal.returns-clause-walks
returns-clause-walks c rows f g = (reach_from_test rows f g, test_from_reach rows f g)

pub returns-clause-cuts : goal.returns-clause-cuts
returns-clause-cuts c rows f g = (IsCut_from_test rows f g, test_from_IsCut rows f g)
