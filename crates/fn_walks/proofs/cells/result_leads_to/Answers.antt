use Rattle.fn_walks.proofs.Making.{result_shown}
use Rattle.fn_walks.proofs.cells.result_leads_to.Goals as goal

pub returns-clause-ok : goal.returns-clause-ok
returns-clause-ok c = result_shown _ _ c.args.n _ c.in_ok-leads.ensures.ok
