use Rattle.std.proofs.Common.{take}
use Rattle.bit_net.specs.Runs.{Grown}
use Rattle.run_world.specs.Seen as seen
use Rattle.gate_paths.specs.Cells.{put_written, where_cell}
use Rattle.gate_sets.specs.Each.{DoesEach}
use Rattle.sc_world.specs.Known.{set_written}
use Rattle.gate_sets.proofs.writes.set_writes.Given as goal

-- the cells so far are written
abbrev pub invariant-loop-x : goal.invariant-loop-x
invariant-loop-x l =
    record {
      grown : Grown l.fn.net l.net;
      so_far : DoesEach (seen.env l.here).source (seen.env l.here).layout l.net l.ends where_cell put_written set_written (take l.x-index l.writes) l.fn.stored.locations.items l.stored.locations.items;
    }
