use Rattle.std.proofs.Common.{◌-◌, sym, ◌∙◌, arith}
use Rattle.fn_facts.specs.declared.entry.Above.TheVariants as above_by
use Rattle.fn_facts.proofs.Given.{always_shown, cell_met, met_none, met_shown}
use Rattle.fn_facts.proofs.entry.+met_by.Goals as goal

pub returns-then-most-eq0-clause-ok : goal.returns-then-most-eq0-clause-ok
returns-then-most-eq0-clause-ok t c = met_none _ _ c.args.most c.args.at _ c.if-most-eq0.true c.constant.ensures

pub returns-in-Nothing-clause-ok : goal.returns-in-Nothing-clause-ok
returns-in-Nothing-clause-ok t c =
    met_shown _ _ c.args.most c.args.at _ above_by.Nothing (omega (arith, c.if-most-eq0.false)) (sym c.reached_from.ensures ∙ c.in-Nothing.is)
    (always_shown _ _ (c.args.most - 1) _ c.constant-in-Nothing.ensures)

pub returns-in_ok-met-in-Whole-clause-ok : goal.returns-in_ok-met-in-Whole-clause-ok
returns-in_ok-met-in-Whole-clause-ok t c =
    met_shown _ _ c.args.most c.args.at _ (above_by.Whole c.in-Whole.whole) (omega (arith, c.if-most-eq0.false)) (sym c.reached_from.ensures ∙ c.in-Whole.is)
    c.in_ok-met-in-Whole.ensures.ok

pub returns-in_ok-met-in-Cell-clause-ok : goal.returns-in_ok-met-in-Cell-clause-ok
returns-in_ok-met-in-Cell-clause-ok t c =
    met_shown _ _ c.args.most c.args.at _ (above_by.Cell c.in-Cell.cell) (omega (arith, c.if-most-eq0.false)) (sym c.reached_from.ensures ∙ c.in-Cell.is)
    (cell_met _ _ _ _ (c.args.most - 1) c.in-Cell.cell _ _ _ c.in_ok-here-in-Cell.ensures.grown c.in_ok-met-in-Cell.ensures.grown
    c.in_ok-before-in-Cell.ensures.ok c.in_ok-here-in-Cell.ensures.ok c.in_ok-met-in-Cell.ensures.ok)
