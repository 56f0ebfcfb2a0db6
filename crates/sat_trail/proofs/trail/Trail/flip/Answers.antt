-- The step at place k gives way to its negation.
use Rattle.std.proofs.Common.{ap}
use Rattle.sat_trail.proofs.PlaceLemmas.{flip_steps}
use Rattle.sat_trail.proofs.trail.Trail.flip.Goals as goal

pub returns-clause-flipped : goal.returns-clause-flipped
returns-clause-flipped c s found =
    flip_steps c.self.inside.order.items c.self.inside.len c.args.k c.args.self.now.steps s c.index.result.now c.negated-lit.result
    (ap (λ t. t.steps) c.self.view_is) c.requires found c.index.ensures c.negated-lit.ensures
