use Rattle.gate_places.proofs.Assigning.{does_assign, stays_laid}
use Rattle.gate_places.proofs.places.assign.Goals as goal

pub wanted-requires-clause-laid : goal.wanted-requires-clause-laid
wanted-requires-clause-laid c = stays_laid _ _ _ _ c.in_ok-store.ensures.ok.same c.requires.laid

pub returns-clause-ok : goal.returns-clause-ok
returns-clause-ok c = does_assign _ _ _ _ _ _ _ _ _ _ _ _ c.in_ok-made.ensures.grown c.in_ok-store.ensures.ok c.in_ok-made.ensures.ok
