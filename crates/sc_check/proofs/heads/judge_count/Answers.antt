use Rattle.sc_check.proofs.Kept.{left, holds_kept}
use Rattle.sc_check.proofs.heads.judge_count.Goals as goal

pub returns-clause-kept : goal.returns-clause-kept
returns-clause-kept c =
    left _ c.few_params.result c.few_params.new.walk c.args.walk.now.globals c.few_params.ensures
    ((holds_kept _ _).kept c.args.walk.now)
