use Rattle.std.proofs.Common.{take}
use Rattle.bit_net.specs.Runs.{Grown}
use Rattle.run_world.specs.Seen as seen
use Rattle.gate_paths.specs.Gathered.{put_locked, where_item}
use Rattle.gate_sets.specs.Each.{DoesEach}
use Rattle.gate_sets.specs.States.{set_one}
use Rattle.gate_sets.proofs.states.set_states.Given as goal

-- the locations of the items so far have their states
abbrev pub invariant-loop-lock : goal.invariant-loop-lock
invariant-loop-lock l =
    record {
      grown : Grown l.fn.net l.net;
      so_far : DoesEach (seen.env l.here).source (seen.env l.here).layout l.net l.ends where_item put_locked set_one (take l.lock-index l.locks) l.fn.stored.locations.items l.stored.locations.items;
    }
