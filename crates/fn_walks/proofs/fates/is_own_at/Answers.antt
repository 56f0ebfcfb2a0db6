use Rattle.fn_walks.proofs.Fating.{own_shown, part_is_not_own}
use Rattle.fn_walks.proofs.fates.is_own_at.Goals as goal

pub returns-then-root_at-at-clause-ok : goal.returns-then-root_at-at-clause-ok
returns-then-root_at-at-clause-ok c = part_is_not_own _ _ c.args.at c.root_at.result _ c.root_at.ensures c.if-root_at-at.true c.constant.ensures

pub returns-clause-ok : goal.returns-clause-ok
returns-clause-ok c =
    own_shown _ _ _ _ _ c.args.at c.root_at.result _ _ _ _ _ _ c.root_at.ensures c.if-root_at-at.false c.in_ok-gone.ensures.grown
    c.in_ok-kept.ensures.grown c.in_ok-own.ensures.grown c.has-freed.ensures c.has-escaped.ensures c.in_ok-gone.ensures.ok c.in_ok-kept.ensures.ok
    c.has-allocated.ensures c.in_ok-own.ensures.ok
