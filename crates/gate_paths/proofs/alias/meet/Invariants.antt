use Rattle.std.proofs.Common.{take}
use Rattle.bit_net.specs.Runs.{Gives, Grown}
use Rattle.gate_paths.proofs.Meeting.{met}
use Rattle.gate_paths.proofs.alias.meet.Given as goal

-- the gate tells of the pairs so far
abbrev pub invariant-loop-pair : goal.invariant-loop-pair
invariant-loop-pair l =
    record {
      grown : Grown l.fn.net l.net;
      so_far : Gives l.net l.some.at (λ choice v. met v (take l.pair-index l.a) l.b.pairs.items);
    }
