use Rattle.flow_turns.proofs.Turning.{branched}
use Rattle.flow_turns.proofs.before.Before.branch.Goals as goal

pub returns-clause-ok : goal.returns-clause-ok
returns-clause-ok c =
    branched _ _ _ c.args.from c.args.number c.args.hit c.args.miss c.args.self.now c.branch-self.new.self c.args.here c.in_ok-test.test.at
    c.in_ok-test.ensures.grown c.in_ok-branch.ensures.grown c.requires.here c.in_ok-test.ensures.ok c.in_ok-branch.ensures.ok
