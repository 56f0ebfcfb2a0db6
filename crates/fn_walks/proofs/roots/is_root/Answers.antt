use Rattle.fn_walks.proofs.Rooting.{held_alone, held_or_given}
use Rattle.fn_walks.proofs.roots.is_root.Goals as goal

pub returns-then-not-from-clause-ok : goal.returns-then-not-from-clause-ok
returns-then-not-from-clause-ok c = held_alone _ _ c.args.from c.args.n _ c.if-not-from.true c.in_ok-held.ensures.ok

pub returns-clause-ok : goal.returns-clause-ok
returns-clause-ok c =
    held_or_given _ _ _ _ c.args.from c.args.n _ _ _ c.if-not-from.false c.in_ok-given.ensures.grown c.in_ok-root.ensures.grown
    c.in_ok-held.ensures.ok c.in_ok-given.ensures.ok c.in_ok-root.ensures.ok
