use Rattle.std.proofs.Common.{arith}
use Rattle.bit_net.proofs.Growth.{Grown-refl, Grown-trans}
use Rattle.gate_acts.proofs.Entries.{table_more, table_whole}
use Rattle.gate_acts.proofs.tables.table_of.Goals as goal

pub loop-state-init : goal.loop-state-init
loop-state-init c = record { grown = Grown-refl _; so_far = c.in_ok-table.ensures c.args.bits.now c.args.machine.now c.args.operation }

pub loop-state-preserved : goal.loop-state-preserved
loop-state-preserved c =
    record {
      grown = Grown-trans _ _ _ c.loop-state.invariant.grown c.in_ok-add.ensures.grown;
      so_far = table_more _ _ c.args.bits.now c.args.machine.now c.args.operation c.loop-state.state c.target.result _ _ c.target.ensures c.in_ok-add.ensures.ok c.loop-state.invariant.so_far;
    }

pub returns-clause-ok : goal.returns-clause-ok
returns-clause-ok c =
    table_whole _ _ c.args.bits.now c.args.machine.now c.args.operation c.loop-state.state c.on_any.result _ _ c.requires.whole (omega (arith, c.loop-state-test.false, c.states-state-end.ensures)) (omega (arith, c.loop-state.auto.state-end, c.states-state-end.ensures)) c.on_any.ensures c.in_ok-add-2.ensures.ok
    c.loop-state.invariant.so_far
