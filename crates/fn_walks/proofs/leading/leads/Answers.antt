use Rattle.fn_walks.proofs.Stepping.{step_shown}
use Rattle.fn_walks.proofs.leading.leads.Goals as goal

pub returns-clause-ok : goal.returns-clause-ok
returns-clause-ok c =
    step_shown _ _ _ _ c.args.from c.args.to _ _ _ _ c.in_ok-there.ensures.grown c.in_ok-leads.ensures.grown c.in_ok-some.ensures.ok
    c.has-freed.ensures c.in_ok-there.ensures.ok c.in_ok-leads.ensures.ok
