use Rattle.fn_questions.proofs.Rowing.{fated_shown}
use Rattle.fn_questions.proofs.rows.has_changed.Goals as goal

pub returns-clause-ok : goal.returns-clause-ok
returns-clause-ok c =
    c.in_ok-changed.ensures.ok _
    (fated_shown _ _ _ c.args.object _ _ _ c.in_ok-fated.ensures.grown c.has-freed.ensures c.in_ok-escaped.ensures.ok c.in_ok-fated.ensures.ok)
