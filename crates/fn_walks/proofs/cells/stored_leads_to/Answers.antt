use Rattle.fn_walks.proofs.Making.{none_stored, stored_shown, val_below}
use Rattle.fn_walks.proofs.cells.stored_leads_to.Goals as goal

pub val_leads_to-requires : goal.val_leads_to-requires
val_leads_to-requires c =
    record { val = val_below c.args.stored.now c.args.at _ c.index-stored-at.result c.if-at-stored.true c.requires.stored }

pub returns-then-at-stored-clause-ok : goal.returns-then-at-stored-clause-ok
returns-then-at-stored-clause-ok c =
    stored_shown _ _ c.args.stored.now c.args.at c.args.n _ c.index-stored-at.result c.if-at-stored.true c.in_ok-leads.ensures.ok

pub returns-clause-ok : goal.returns-clause-ok
returns-clause-ok c = none_stored _ _ c.args.stored.now c.args.at c.args.n _ c.if-at-stored.false c.constant.ensures
