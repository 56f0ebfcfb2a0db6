use Rattle.bit_net.specs.Runs.{Grown}
use Rattle.gate_paths.proofs.Meeting.{MeetFirst}
use Rattle.gate_paths.proofs.alias.meet_some.Given as goal

-- the gate tells of the others so far
abbrev pub invariant-loop-other : goal.invariant-loop-other
invariant-loop-other l =
    record {
      grown : Grown l.fn.net l.net;
      so_far : MeetFirst l.net l.fn.a.pairs.items l.fn.others l.other-index l.some.at;
    }
