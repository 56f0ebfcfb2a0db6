use Rattle.std.proofs.Common.{◌≡◌, ◌+◌, ◌≤◌, ◌++◌, length, map, drop, vec_capacity}
use Rattle.sc_world.specs.World.{state_place}
use Rattle.layout_base.specs.Seen.{location_of}
use Rattle.run_world.specs.Seen.{env, place}
use Rattle.run_entry.proofs.entry.push_states.Given as goal

abbrev pub invariant-loop-location : goal.invariant-loop-location
invariant-loop-location l = record {
  slots : map place l.slots.items ++ map (state_place (env l.here).source (env l.here).choice) (map location_of (drop l.location-index l.location-items))
      ≡ map place l.fn.slots.items ++ map (state_place (env l.here).source (env l.here).choice) (map location_of l.location-items);
  count : length l.slots.items + length (drop l.location-index l.location-items) ≡ length l.fn.slots.items + length l.location-items;
  room : length l.fn.slots.items + length l.location-items ≤ vec_capacity l.slots;
  capacity : vec_capacity l.fn.slots ≤ vec_capacity l.slots;
}
