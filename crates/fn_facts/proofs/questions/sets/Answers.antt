use Rattle.fn_facts.proofs.Touching.{sets_shown}
use Rattle.fn_facts.proofs.questions.sets.Goals as goal

pub returns-clause-ok : goal.returns-clause-ok
returns-clause-ok c = sets_shown _ _ c.args.n _ _ c.param_object.ensures c.in_ok-sets.ensures.ok
