use Rattle.gl_sets.proofs.PointLemmas.{single_differs, single_points, single_good}
use Rattle.gl_sets.proofs.sets.Set.one.Goals as goal

pub invariant_of-result : goal.invariant_of-result
invariant_of-result c = record { differ = single_differs _ _ _ c.new-pairs.ensures.items c.push_reserved.ensures.items }

pub returns-clause-good : goal.returns-clause-good
returns-clause-good c = single_good _ _ _ _ c.new-pairs.ensures.items c.push_reserved.ensures.items c.constant.ensures

pub returns-clause-points : goal.returns-clause-points
returns-clause-points c = single_points _ _ _ _ c.new-pairs.ensures.items c.push_reserved.ensures.items c.constant.ensures
