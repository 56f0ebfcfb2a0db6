use Rattle.bit_net.specs.Runs.{Grown}
use Rattle.gate_paths.proofs.Meeting.{TwiceFirst}
use Rattle.gate_paths.proofs.alias.meet_twice.Given as goal

-- the gate tells of the items so far, each with those behind it
abbrev pub invariant-loop-k : goal.invariant-loop-k
invariant-loop-k l =
    record {
      grown : Grown l.fn.net l.net;
      so_far : TwiceFirst l.net l.fn.found l.k l.some.at;
    }
