use Rattle.std.proofs.Common.{sym, ◌∙◌}
use Rattle.run_world.specs.Seen.{env}
use Rattle.fn_walks.proofs.Lost.{loss_is_escape, lost_shown, never_lost}
use Rattle.fn_walks.proofs.losing.is_lost_from.Goals as goal

pub returns-then-not-is_from-clause-ok : goal.returns-then-not-is_from-clause-ok
returns-then-not-is_from-clause-ok c = never_lost _ _ c.args.pos c.args.at _ (sym c.is_from.ensures ∙ c.if-not-is_from.true) c.constant.ensures

pub is_escaped-requires-clause-from : goal.is_escaped-requires-clause-from
is_escaped-requires-clause-from c =
    loss_is_escape (env c.args.around.now.here).layout c.args.pos c.args.at c.args.walk.now.from
    (sym c.is_from.ensures ∙ c.if-not-is_from.false) c.requires.from

pub returns-clause-ok : goal.returns-clause-ok
returns-clause-ok c =
    lost_shown _ _ _ _ _ c.args.pos c.args.at _ _ _ _ _ _ (sym c.is_from.ensures ∙ c.if-not-is_from.false) c.in_ok-gone.ensures.grown
    c.in_ok-left.ensures.grown c.in_ok-lost.ensures.grown c.in_ok-escaped.ensures.ok c.has-freed.ensures c.in_ok-gone.ensures.ok
    c.in_ok-left.ensures.ok c.has-allocated.ensures c.in_ok-lost.ensures.ok
