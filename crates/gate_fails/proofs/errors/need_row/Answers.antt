use Rattle.gate_fails.proofs.Erring.{row_needed}
use Rattle.gate_fails.proofs.errors.need_row.Goals as goal

pub returns-clause-ok : goal.returns-clause-ok
returns-clause-ok c =
    row_needed _ _ _ c.args.erring.now.pairs.items c.points-none.result.at c.args.has_error.at c.in_ok-fine.fine.at c.args.ends.now _
    c.in_ok-fine.ensures.grown c.in_ok-unless.ensures.grown c.points_are_guards.ensures.guards c.points-none.ensures c.in_ok-fine.ensures.ok
    c.in_ok-unless.ensures.ok
