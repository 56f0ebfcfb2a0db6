use Rattle.flow_turns.proofs.Turning.{passed_never}
use Rattle.flow_turns.proofs.before.Before.pass.Goals as goal

pub returns : goal.returns
returns c = passed_never _ c.args.self.now c.args.here.now c.requires.never
