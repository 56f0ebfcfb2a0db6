use Rattle.fn_facts.proofs.Given.{whole_shown}
use Rattle.fn_facts.proofs.entry.is_met.Goals as goal

pub returns-clause-ok : goal.returns-clause-ok
returns-clause-ok c = whole_shown _ _ c.count.result c.args.at _ c.count.ensures.count c.in_ok-met.ensures.ok
