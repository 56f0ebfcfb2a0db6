-- The net has grown.
use Rattle.bit_net.specs.Runs.{Grown}
use Rattle.proof_tests.proofs.first_choices.draw_all.Given as goal

abbrev pub invariant-loop-gate : goal.invariant-loop-gate
invariant-loop-gate l = Grown l.fn.net l.net
