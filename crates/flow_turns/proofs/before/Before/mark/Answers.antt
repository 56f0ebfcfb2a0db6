use Rattle.flow_turns.proofs.Turning.{marked}
use Rattle.flow_turns.proofs.before.Before.mark.Goals as goal

pub returns-clause-ok : goal.returns-clause-ok
returns-clause-ok c = marked _ c.args.next c.args.self.now c.come.new.self c.args.here c.requires.gates.splits c.requires.here c.in_ok-come.ensures.ok
