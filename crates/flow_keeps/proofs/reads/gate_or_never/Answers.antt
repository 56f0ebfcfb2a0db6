use Rattle.flow_keeps.proofs.Told.{gate_told, never_told}
use Rattle.flow_keeps.proofs.reads.gate_or_never.Goals as goal

pub returns-then-k-gates : goal.returns-then-k-gates
returns-then-k-gates c = gate_told c.args.net.now c.args.gates.now c.args.k c.if-k-gates.true c.requires

pub returns-else-k-gates : goal.returns-else-k-gates
returns-else-k-gates c = never_told c.args.net.now c.args.gates.now c.args.k _ c.if-k-gates.false c.constant.ensures
