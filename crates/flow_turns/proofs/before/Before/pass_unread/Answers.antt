use Rattle.flow_turns.proofs.Turning.{passed_unread}
use Rattle.flow_turns.proofs.before.Before.pass_unread.Goals as goal

pub returns : goal.returns
returns c = passed_unread _ c.args.self.now c.args.here.now c.args.temp c.requires.unread
