use Rattle.flow_ends.proofs.Gates.{told_set, top_set}
use Rattle.flow_ends.proofs.fates.set_gate.Goals as goal

pub returns-clause-top : goal.returns-clause-top
returns-clause-top c = top_set c.args.gates.now c.args.k c.args.gate

pub returns-clause-told : goal.returns-clause-told
returns-clause-told c = λ v j. told_set v c.args.gates.now c.args.k j c.args.gate c.requires
