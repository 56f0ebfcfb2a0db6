use Rattle.flow_turns.proofs.Lists.{told_at, below_at}
use Rattle.flow_turns.proofs.temps.gate_in.Goals as goal

pub returns-clause-below : goal.returns-clause-below
returns-clause-below c = below_at c.args.gates.now c.args.k (record { at = 0 }) c.requires

pub returns-clause-told : goal.returns-clause-told
returns-clause-told c = λ v. told_at v c.args.gates.now c.args.k (record { at = 0 }) c.requires
