use Rattle.std.proofs.Common.{◌≡◌, length, take}
use Rattle.bit_net.specs.Runs.{Grown}
use Rattle.gate_runs.specs.Stands.{AreEnds}
use Rattle.gate_fails.specs.Errors.{FailsEach}
use Rattle.gate_fails.proofs.failing.fail_each.Given as goal

-- the errors at the targets so far
abbrev pub invariant-loop-pair : goal.invariant-loop-pair
invariant-loop-pair l =
    record {
      grown : Grown l.fn.net l.net;
      ready : AreEnds l.net l.ends;
      bads : length l.ends.bads.items ≡ length l.fn.ends.bads.items;
      so_far : FailsEach l.net (take l.pair-index l.pairs) l.fn.ends l.ends;
    }
