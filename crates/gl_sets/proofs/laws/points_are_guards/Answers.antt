use Rattle.gl_sets.proofs.PointLemmas.{guard-points, Points-guard}
use Rattle.gl_sets.proofs.laws.points_are_guards.Goals as goal

pub returns-clause-guards : goal.returns-clause-guards
returns-clause-guards c = guard-points

pub returns-clause-points : goal.returns-clause-points
returns-clause-points c = Points-guard
