use Rattle.std.proofs.Common.{sym, ◌∙◌}
use Rattle.fn_facts.proofs.Ending.{error_shown, no_error_shown}
use Rattle.fn_facts.proofs.ends.errs_at.Goals as goal

pub returns-then-is_outer : goal.returns-then-is_outer
returns-then-is_outer c = error_shown _ _ c.args.at _ (sym c.is_outer.ensures ∙ c.if-is_outer.true) c.fails_at.ensures

pub returns-else-is_outer : goal.returns-else-is_outer
returns-else-is_outer c = no_error_shown _ _ c.args.at _ (sym c.is_outer.ensures ∙ c.if-is_outer.false) c.constant.ensures
