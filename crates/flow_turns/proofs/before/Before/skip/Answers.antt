use Rattle.flow_turns.proofs.Skipping.{skipped}
use Rattle.flow_turns.proofs.before.Before.skip.Goals as goal

pub returns-clause-ok : goal.returns-clause-ok
returns-clause-ok c = skipped _ c.args.next c.args.self.now c.come.new.self c.args.here c.requires.gates.splits c.requires.here c.in_ok-come.ensures.ok
