use Rattle.std.proofs.Common.{sym, ◌∙◌}
use Rattle.fn_walks.proofs.Stepping.{no_pointer_leads, other_leads, own_leads}
use Rattle.fn_walks.proofs.leading.cell_leads.Goals as goal

pub returns-then-not-is_pointer_cell-clause-ok : goal.returns-then-not-is_pointer_cell-clause-ok
returns-then-not-is_pointer_cell-clause-ok c =
    no_pointer_leads _ _ c.args.from c.args.to c.args.at _ (sym c.is_pointer_cell.ensures ∙ c.if-not-is_pointer_cell.true) c.constant.ensures

pub returns-then-root_at-from-clause-ok : goal.returns-then-root_at-from-clause-ok
returns-then-root_at-from-clause-ok c =
    other_leads _ _ c.args.from c.args.to c.args.at c.root_at.result _ c.root_at.ensures c.if-root_at-from.true c.constant-then-root_at-from.ensures

pub returns-clause-ok : goal.returns-clause-ok
returns-clause-ok c =
    own_leads _ _ c.args.from c.args.to c.args.at c.root_at.result _ (sym c.is_pointer_cell.ensures ∙ c.if-not-is_pointer_cell.false)
    c.root_at.ensures c.if-root_at-from.false c.in_ok-leads.ensures.ok
