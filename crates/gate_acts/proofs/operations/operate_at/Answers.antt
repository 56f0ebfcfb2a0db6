use Rattle.std.proofs.Common.{subst}
use Rattle.gate_acts.specs.Tables.{IsTable, led_to}
use Rattle.gate_acts.proofs.Operating.{operates_at}
use Rattle.gate_acts.proofs.operations.operate_at.Goals as goal

pub returns-clause-ok : goal.returns-clause-ok
returns-clause-ok c =
    operates_at _ _ c.args.operation c.args.at c.state_cell.result c.args.guard.at _ _ c.word_at-bits.result.now c.in_ok-table.table _ _ c.args.ends.now _ c.in_ok-goes_at.ensures.grown
    c.word_at-bits.ensures c.state_cell.ensures
    (subst (λ m. IsTable c.table_of.new.net c.word_at-bits.result.now (led_to m c.args.operation) c.in_ok-table.table) c.machine_of.ensures c.in_ok-table.ensures.ok) c.in_ok-goes_at.ensures.ok
