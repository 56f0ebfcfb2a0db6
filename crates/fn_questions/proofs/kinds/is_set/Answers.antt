use Rattle.fn_questions.proofs.Kinding.{set_shown}
use Rattle.fn_questions.proofs.kinds.is_set.Goals as goal

pub returns-clause-ok : goal.returns-clause-ok
returns-clause-ok c =
    set_shown _ _ _ _ c.args.at _ _ _ _ _ c.root_at.ensures c.in_ok-there.ensures.grown c.in_ok-set.ensures.grown c.has-freed.ensures
    c.in_ok-there.ensures.ok c.has-written.ensures c.in_ok-set.ensures.ok
