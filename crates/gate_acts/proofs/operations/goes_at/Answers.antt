use Rattle.bit_net.proofs.Growth.{Grown-refl}
use Rattle.gate_acts.proofs.Operating.{goes_at}
use Rattle.gate_acts.proofs.operations.goes_at.Goals as goal

pub returns-clause-ok : goal.returns-clause-ok
returns-clause-ok c =
    goes_at _ _ _ _ _ _ _ c.args.at c.state_cell.result c.args.guard.at c.args.table _ _ c.args.ends.now _ _ _ _ c.in_ok-none.ensures.grown c.in_ok-fails.ensures.grown
    c.in_ok-fail_where.ensures.grown c.in_ok-when.ensures.grown (Grown-refl _) c.in_ok-none.ensures.ok c.in_ok-fails.ensures.ok c.in_ok-fail_where.ensures.ok c.in_ok-when.ensures.ok _
    c.in_ok-put_where.ensures.grown c.in_ok-put_where.ensures.ok c.state_cell.ensures c.requires.wide
