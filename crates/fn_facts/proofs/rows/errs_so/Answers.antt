use Rattle.std.proofs.Common.{sym, ◌∙◌}
use Rattle.fn_facts.proofs.Rowing.{error_row, no_error_row}
use Rattle.fn_facts.proofs.rows.errs_so.Goals as goal

pub returns-then-is_bad : goal.returns-then-is_bad
returns-then-is_bad c = error_row _ _ c.args.at _ c.args.row (sym c.is_bad.ensures ∙ c.if-is_bad.true) c.errs_at.ensures

pub returns-else-is_bad : goal.returns-else-is_bad
returns-else-is_bad c = no_error_row _ _ c.args.at _ c.args.row (sym c.is_bad.ensures ∙ c.if-is_bad.false) c.constant.ensures
