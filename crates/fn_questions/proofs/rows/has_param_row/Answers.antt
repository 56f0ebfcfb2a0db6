use Rattle.fn_facts.proofs.Growing.{shared_grows}
use Rattle.fn_questions.proofs.rows.has_param_row.Goals as goal

pub row_with-requires-clause-shared : goal.row_with-requires-clause-shared
row_with-requires-clause-shared c = shared_grows _ _ _ _ c.in_ok-fate.ensures.grown c.requires.shared

pub returns-clause-ok : goal.returns-clause-ok
returns-clause-ok c = c.in_ok-has.ensures.ok _ (c.in_ok-end.ensures.ok _ c.in_ok-fate.ensures.ok)
