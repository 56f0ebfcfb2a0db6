use Rattle.bit_net.specs.Runs.{Grown}
use Rattle.run_world.specs.Seen as seen
use Rattle.gate_stands.proofs.Items.{LocksFirst}
use Rattle.gate_stands.proofs.locks.locks_stand.Given as goal

-- the gate tells of the locations so far
abbrev pub invariant-loop-lock : goal.invariant-loop-lock
invariant-loop-lock l =
    record {
      grown : Grown l.fn.net l.net;
      so_far : LocksFirst (seen.env l.here).source (seen.env l.here).layout l.net l.store.locations.items l.given l.outcome l.locks l.lock-index l.all.at;
    }
