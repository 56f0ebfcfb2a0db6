use Rattle.std.proofs.Common.{ap}
use Rattle.flow_turns.proofs.Turning.{asided}
use Rattle.flow_turns.proofs.before.Before.set_aside.Goals as goal

pub returns-clause-ok : goal.returns-clause-ok
returns-clause-ok c =
    asided _ _ c.args.self.now c.set_aside.new.self c.go_anywhere.new.ways c.args.here c.in_ok-set_aside.ensures.grown c.requires.here c.requires.gates.splits
    c.in_ok-set_aside.ensures.ok (ap (λ x. x.items) c.set_aside.ensures.bads) c.set_aside.ensures.stopped (ap (λ x. x.items) c.set_aside.ensures.touched) c.in_ok-go_anywhere.ensures.ok
