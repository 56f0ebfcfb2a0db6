use Rattle.flow_turns.proofs.Finishing.{finished}
use Rattle.flow_turns.proofs.before.Before.finish.Goals as goal

pub returns : goal.returns
returns c = finished c.args.net.now c.args.self c.requires.gates
