use Rattle.std.proofs.Common.{map, take}
use Rattle.bit_net.specs.Runs.{Grown}
use Rattle.layout_base.specs.Seen.{location_of}
use Rattle.run_world.specs.Seen.{env}
use Rattle.sc_world.specs.World.{state_place}
use Rattle.gate_entry.specs.Entry.{ArePut, state_kind}
use Rattle.gate_entry.proofs.entry.push_states.Given as goal

-- those of the first locations are there
abbrev pub invariant-loop-location : goal.invariant-loop-location
invariant-loop-location l =
    record {
      grown : Grown l.fn.net l.net;
      put : ArePut (env l.here).source (env l.here).layout l.net state_kind (state_place (env l.here).source)
          (map location_of (take l.location-index l.locations)) l.fn.stored.items l.stored.items;
    }
