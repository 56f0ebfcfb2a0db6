use Rattle.gate_acts.proofs.Entries.{adds_none}
use Rattle.gate_acts.proofs.tables.add.Goals as goal

pub returns-in-None-clause-ok : goal.returns-in-None-clause-ok
returns-in-None-clause-ok c = rw c.in-None.is (adds_none c.args.net.now c.args.bits.now c.args.key c.args.table.now)

pub returns-in_ok-add_entry-in-Some-clause-ok : goal.returns-in_ok-add_entry-in-Some-clause-ok
returns-in_ok-add_entry-in-Some-clause-ok c = rw c.in-Some.is c.in_ok-add_entry-in-Some.ensures.ok
