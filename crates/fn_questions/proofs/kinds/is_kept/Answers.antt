use Rattle.fn_questions.proofs.Kinding.{not_set_shown}
use Rattle.fn_questions.proofs.kinds.is_kept.Goals as goal

pub returns-clause-ok : goal.returns-clause-ok
returns-clause-ok c = not_set_shown _ _ _ c.args.at _ _ c.in_ok-kept.ensures.grown c.in_ok-set.ensures.ok c.in_ok-kept.ensures.ok
