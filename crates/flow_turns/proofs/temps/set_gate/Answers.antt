use Rattle.flow_turns.proofs.Lists.{told_set, top_set}
use Rattle.flow_turns.proofs.temps.set_gate.Goals as goal

pub returns-clause-top : goal.returns-clause-top
returns-clause-top c = λ n top low. top_set c.args.gates.now c.args.k c.args.gate n top low

pub returns-clause-told : goal.returns-clause-told
returns-clause-told c = λ v j. told_set v c.args.gates.now c.args.k j c.args.gate c.requires
