use Rattle.fn_walks.proofs.Fating.{alone_shown, never_fresh}
use Rattle.fn_walks.proofs.Reaching.{walk_grows}
use Rattle.fn_walks.proofs.fates.is_fresh_at.Goals as goal

pub returns-then-is_never-clause-ok : goal.returns-then-is_never-clause-ok
returns-then-is_never-clause-ok c = never_fresh _ _ _ c.args.at _ (c.is_never.ensures.never c.if-is_never.true) c.in_ok-own.ensures.ok

pub reaches-requires-clause-walk : goal.reaches-requires-clause-walk
reaches-requires-clause-walk c = walk_grows _ _ _ _ c.in_ok-own.ensures.grown c.requires.walk

pub returns-clause-ok : goal.returns-clause-ok
returns-clause-ok c =
    alone_shown _ _ _ _ _ c.args.walk.now.from c.args.at _ _ _ _ c.in_ok-there.ensures.grown c.in_ok-alone.ensures.grown
    c.in_ok-fresh.ensures.grown c.in_ok-own.ensures.ok c.in_ok-there.ensures.ok c.in_ok-alone.ensures.ok c.in_ok-fresh.ensures.ok
