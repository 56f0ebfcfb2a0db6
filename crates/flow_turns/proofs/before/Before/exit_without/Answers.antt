use Rattle.flow_turns.proofs.Turning.{exited_without}
use Rattle.flow_turns.proofs.before.Before.exit_without.Goals as goal

pub returns-clause-ok : goal.returns-clause-ok
returns-clause-ok c =
    exited_without _ _ c.args.self.now c.overwrite.new.val c.args.here.now c.in_ok-overwrite.ensures.grown c.requires.here c.in_ok-overwrite.ensures.ok
