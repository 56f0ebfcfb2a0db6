use Rattle.fn_walks.proofs.Making.{none_nowhere, stored_nowhere}
use Rattle.fn_walks.proofs.leading.stored_may_lead.Goals as goal

pub returns-then-at-stored : goal.returns-then-at-stored
returns-then-at-stored c =
    λ e. stored_nowhere c.args.stored.now c.args.at c.index-stored-at.result c.if-at-stored.true (c.has_targets.ensures e)

pub returns : goal.returns
returns c = λ e. none_nowhere c.args.stored.now c.args.at c.if-at-stored.false
