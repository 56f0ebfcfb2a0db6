use Rattle.std.proofs.Common.{sym, ◌∙◌}
use Rattle.fn_questions.proofs.Kinding.{changed_shown, kept_shown}
use Rattle.fn_questions.proofs.kinds.out_fate_is.Goals as goal

pub returns-then-is_same-clause-ok : goal.returns-then-is_same-clause-ok
returns-then-is_same-clause-ok c = kept_shown _ _ c.args.wanted c.args.at _ (sym c.is_same.ensures ∙ c.if-is_same.true) c.in_ok-kept.ensures.ok

pub returns-clause-ok : goal.returns-clause-ok
returns-clause-ok c =
    changed_shown _ _ _ _ c.args.wanted c.args.at _ _ _ (sym c.is_same.ensures ∙ c.if-is_same.false) c.in_ok-set.ensures.grown
    c.in_ok-changed.ensures.grown c.in_ok-kind.ensures.ok c.in_ok-set.ensures.ok c.in_ok-changed.ensures.ok
