use Rattle.std.proofs.Common.{sym, ◌∙◌}
use Rattle.fn_walks.proofs.Rooting.{counted, no_pointer_held, not_counted}
use Rattle.fn_walks.proofs.roots.holds_here.Goals as goal

pub returns-then-not-is_pointer_cell-clause-ok : goal.returns-then-not-is_pointer_cell-clause-ok
returns-then-not-is_pointer_cell-clause-ok c =
    no_pointer_held _ _ c.args.beside c.args.n c.args.at _ (sym c.is_pointer_cell.ensures ∙ c.if-not-is_pointer_cell.true) c.constant.ensures

pub returns-then-not-counts-clause-ok : goal.returns-then-not-counts-clause-ok
returns-then-not-counts-clause-ok c =
    not_counted _ _ c.args.beside c.args.n c.args.at _ (sym c.counts.ensures ∙ c.if-not-counts.true) c.constant-then-not-counts.ensures

pub returns-clause-ok : goal.returns-clause-ok
returns-clause-ok c =
    counted _ _ _ _ c.args.beside c.args.n c.args.at _ _ _ (sym c.counts.ensures ∙ c.if-not-counts.false) c.in_ok-holder.ensures.grown
    c.in_ok-holds.ensures.grown c.in_ok-leads.ensures.ok c.in_ok-holder.ensures.ok c.in_ok-holds.ensures.ok
