use Rattle.flow_turns.proofs.Turning.{exited_with}
use Rattle.flow_turns.proofs.before.Before.exit_with.Goals as goal

pub returns-clause-ok : goal.returns-clause-ok
returns-clause-ok c =
    exited_with _ _ c.args.self.now c.give.new.given c.args.here.now c.args.from c.in_ok-give.ensures.grown c.requires.here c.in_ok-give.ensures.ok
