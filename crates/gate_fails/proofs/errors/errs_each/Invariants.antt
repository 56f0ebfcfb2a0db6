use Rattle.std.proofs.Common.{◌≡◌, length}
use Rattle.bit_net.specs.Runs.{Grown}
use Rattle.run_world.specs.Seen as seen
use Rattle.gate_runs.specs.Stands.{AreEnds}
use Rattle.gate_fails.proofs.Erring.{ErrsFirst}
use Rattle.gate_fails.proofs.errors.errs_each.Given as goal

-- the errors of the items so far
abbrev pub invariant-loop-item : goal.invariant-loop-item
invariant-loop-item l =
    record {
      grown : Grown l.fn.net l.net;
      ready : AreEnds l.net l.ends;
      bads : length l.ends.bads.items ≡ length l.fn.ends.bads.items;
      so_far : ErrsFirst (seen.env l.here).source (seen.env l.here).layout l.net l.called.given.now l.item-index l.called.locks.now
          l.fn.stored.locations.items l.stored.locations.items l.fn.ends l.ends;
    }
