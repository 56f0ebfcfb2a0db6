use Rattle.fn_facts.proofs.questions.writes.Goals as goal

pub returns-clause-ok : goal.returns-clause-ok
returns-clause-ok c = c.at_exit.ensures.ok _ c.has-written.ensures
