use Rattle.fn_walks.proofs.Reaching.{reach_shown, walk_grows}
use Rattle.fn_walks.proofs.walking.reaches.Goals as goal

pub comes-requires-clause-walk : goal.comes-requires-clause-walk
comes-requires-clause-walk c = walk_grows _ _ _ _ c.in_ok-root.ensures.grown c.requires.walk

pub returns-clause-ok : goal.returns-clause-ok
returns-clause-ok c =
    reach_shown _ _ _ _ c.args.net.now c.args.walk.now c.args.n _ _ _ c.requires.objects c.requires.walk c.in_ok-more.ensures.grown
    c.in_ok-reaches.ensures.grown c.in_ok-root.ensures.ok c.in_ok-more.ensures.ok c.in_ok-reaches.ensures.ok
