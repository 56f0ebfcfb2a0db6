use Rattle.fn_facts.proofs.Ending.{exit_shown}
use Rattle.fn_facts.proofs.ends.exits.Goals as goal

pub returns-clause-ok : goal.returns-clause-ok
returns-clause-ok c = exit_shown _ _ _ c.in_ok-exits.ensures.ok
