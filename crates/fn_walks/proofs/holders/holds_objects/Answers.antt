use Rattle.std.proofs.Common.{sym, ◌∙◌}
use Rattle.fn_walks.proofs.Holding.{known_holds, other_holds}
use Rattle.fn_walks.proofs.holders.holds_objects.Goals as goal

pub returns-then-is_known-clause-ok : goal.returns-then-is_known-clause-ok
returns-then-is_known-clause-ok c =
    known_holds _ _ _ c.args.object _ _ (sym c.is_known.ensures ∙ c.if-is_known.true) c.in_ok-there.ensures.grown c.has-freed.ensures c.in_ok-there.ensures.ok

pub returns-clause-ok : goal.returns-clause-ok
returns-clause-ok c =
    other_holds _ _ _ _ c.args.object _ _ _ _ (sym c.is_known.ensures ∙ c.if-is_known.false) c.in_ok-there.ensures.grown c.in_ok-holds.ensures.grown
    c.has-freed.ensures c.in_ok-there.ensures.ok c.has-escaped.ensures c.in_ok-holds.ensures.ok
