use Rattle.std.proofs.Common.{sym, ◌∙◌}
use Rattle.fn_walks.proofs.Holding.{holder, no_holder}
use Rattle.fn_walks.proofs.holders.is_holder.Goals as goal

pub returns-then-not-is_pointer_cell-clause-ok : goal.returns-then-not-is_pointer_cell-clause-ok
returns-then-not-is_pointer_cell-clause-ok c =
    no_holder _ _ c.args.at _ (sym c.is_pointer_cell.ensures ∙ c.if-not-is_pointer_cell.true) c.constant.ensures

pub returns-clause-ok : goal.returns-clause-ok
returns-clause-ok c =
    holder _ _ c.args.at c.root_at.result _ (sym c.is_pointer_cell.ensures ∙ c.if-not-is_pointer_cell.false) c.root_at.ensures c.in_ok-holds.ensures.ok
