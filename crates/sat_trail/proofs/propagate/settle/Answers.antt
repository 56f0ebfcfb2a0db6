-- The short clauses first.
use Rattle.sat_trail.proofs.FollowLemmas.{extends_trans}
use Rattle.sat_trail.proofs.propagate.settle.Goals as goal

pub returns : goal.returns
returns c = (extends_trans _ _ _ _ c.begin-begun.ensures.0 c.in_ok-found.ensures.0, c.in_ok-found.ensures.1)
