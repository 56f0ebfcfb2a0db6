use Rattle.fn_facts.proofs.Ending.{gate_shown, past_shown}
use Rattle.fn_facts.proofs.ends.gate_or_never.Goals as goal

pub returns-then-k-gates : goal.returns-then-k-gates
returns-then-k-gates c = gate_shown _ c.args.gates.now c.args.k (record { at = 0 }) c.if-k-gates.true c.requires

pub returns-else-k-gates : goal.returns-else-k-gates
returns-else-k-gates c = past_shown _ c.args.gates.now c.args.k _ c.if-k-gates.false c.constant.ensures
