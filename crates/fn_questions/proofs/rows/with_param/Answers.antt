use Rattle.fn_questions.proofs.Rowing.{with_param_shown}
use Rattle.fn_questions.proofs.rows.with_param.Goals as goal

pub returns-clause-ok : goal.returns-clause-ok
returns-clause-ok c =
    λ of shown.
    c.in_ok-ends.ensures.ok _
    (with_param_shown _ _ _ _ of c.args.number _ _ _ c.in_ok-there.ensures.grown c.in_ok-both.ensures.grown shown c.in_ok-there.ensures.ok
    c.in_ok-both.ensures.ok)
