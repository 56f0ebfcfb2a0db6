use Rattle.std.proofs.Common.{take}
use Rattle.bit_net.specs.Runs.{Grown}
use Rattle.run_world.specs.Seen as seen
use Rattle.gate_paths.specs.Gathered.{put_out, where_item}
use Rattle.gate_sets.specs.Each.{DoesEach}
use Rattle.gate_sets.specs.Outs.{set_one}
use Rattle.gate_sets.proofs.outs.set_outs.Given as goal

-- the pointers of the items so far are set
abbrev pub invariant-loop-out : goal.invariant-loop-out
invariant-loop-out l =
    record {
      grown : Grown l.fn.net l.net;
      so_far : DoesEach (seen.env l.here).source (seen.env l.here).layout l.net l.ends where_item put_out set_one (take l.out-index l.outs) l.fn.stored.locations.items l.stored.locations.items;
    }
