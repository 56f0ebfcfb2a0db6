use Rattle.gate_acts.proofs.Entries.{adds_some}
use Rattle.gate_acts.proofs.tables.add_entry.Goals as goal

pub returns-clause-ok : goal.returns-clause-ok
returns-clause-ok c =
    adds_some _ _ _ _ c.args.bits.now c.args.key c.args.entry _ _ c.args.table.now _ c.in_ok-here.ensures.grown c.in_ok-known.ensures.grown c.in_ok-state.ensures.grown
    c.requires.entry c.in_ok-here.ensures.ok c.in_ok-target.ensures c.in_ok-known.ensures.ok c.in_ok-state.ensures.ok
