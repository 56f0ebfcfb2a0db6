use Rattle.bit_net.specs.Runs.{Grown}
use Rattle.run_world.specs.Seen as seen
use Rattle.gate_stands.proofs.Items.{OutsFirst}
use Rattle.gate_stands.proofs.outs.outs_stand.Given as goal

-- the gate tells of the pointers so far
abbrev pub invariant-loop-out : goal.invariant-loop-out
invariant-loop-out l =
    record {
      grown : Grown l.fn.net l.net;
      so_far : OutsFirst (seen.env l.here).source (seen.env l.here).layout l.net l.given l.outcome l.outs l.out-index l.all.at;
    }
