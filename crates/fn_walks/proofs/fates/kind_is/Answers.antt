use Rattle.sum_rows.specs.declared.row.State.TheVariants as state
use Rattle.fn_walks.proofs.Fating.{fresh_shown, kind_of, none_shown, null_shown, other_shown}
use Rattle.fn_walks.proofs.Reaching.{walk_grows}
use Rattle.fn_walks.proofs.fates.kind_is.Goals as goal

pub is_fresh-requires-clause-walk : goal.is_fresh-requires-clause-walk
is_fresh-requires-clause-walk c = walk_grows _ _ _ _ c.in_ok-some.ensures.grown c.requires.walk

pub is_fresh-requires-in-Other-clause-walk : goal.is_fresh-requires-in-Other-clause-walk
is_fresh-requires-in-Other-clause-walk c = walk_grows _ _ _ _ c.in_ok-some.ensures.grown c.requires.walk

pub returns-in_ok-null-in-Null-clause-ok : goal.returns-in_ok-null-in-Null-clause-ok
returns-in_ok-null-in-Null-clause-ok c =
    kind_of _ _ c.args.walk.now.from _ c.args.wanted state.Null _ c.in-Null.is
    (null_shown _ _ _ c.args.walk.now.from _ _ _ c.in_ok-null-in-Null.ensures.grown c.in_ok-some.ensures.ok c.in_ok-null-in-Null.ensures.ok)

pub returns-in_ok-is-in-Fresh-clause-ok : goal.returns-in_ok-is-in-Fresh-clause-ok
returns-in_ok-is-in-Fresh-clause-ok c =
    kind_of _ _ c.args.walk.now.from _ c.args.wanted state.Fresh _ c.in-Fresh.is
    (fresh_shown _ _ _ _ c.args.walk.now.from _ _ _ _ c.in_ok-fresh-in-Fresh.ensures.grown c.in_ok-is-in-Fresh.ensures.grown
    c.in_ok-some.ensures.ok c.in_ok-fresh-in-Fresh.ensures.ok c.in_ok-is-in-Fresh.ensures.ok)

pub returns-in_ok-is-in-Other-clause-ok : goal.returns-in_ok-is-in-Other-clause-ok
returns-in_ok-is-in-Other-clause-ok c =
    kind_of _ _ c.args.walk.now.from _ c.args.wanted state.Other _ c.in-Other.is
    (other_shown _ _ _ _ _ c.args.walk.now.from _ _ _ _ _ c.in_ok-fresh-in-Other.ensures.grown c.in_ok-other-in-Other.ensures.grown
    c.in_ok-is-in-Other.ensures.grown c.in_ok-some.ensures.ok c.in_ok-fresh-in-Other.ensures.ok c.in_ok-other-in-Other.ensures.ok
    c.in_ok-is-in-Other.ensures.ok)

pub returns-in-Nil : goal.returns-in-Nil
returns-in-Nil c =
    record {
      grown = c.in_ok-some.ensures.grown;
      ok = none_shown _ _ c.args.walk.now.from _ c.args.wanted _ c.in-Nil.is c.constant.ensures;
    }
