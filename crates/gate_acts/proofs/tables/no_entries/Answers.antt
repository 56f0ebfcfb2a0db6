use Rattle.gate_acts.proofs.Entries.{table_none}
use Rattle.gate_acts.proofs.tables.no_entries.Goals as goal

pub returns : goal.returns
returns c = table_none c.args.net.now _ c.constant-known.ensures c.in_ok-state.ensures
