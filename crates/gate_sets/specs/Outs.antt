-- The pointers that parameters point to after a known call, as gates: by the choice each of them is null, points to an object, or is as before.
use Rattle.std.specs.Prelude.{◌≡◌, ℕ, ◌≤◌, nat_eq, Bool, ◌&&◌, Option, Some, None, List, length, if◌then◌else◌}
use Rattle.bit_net.specs.declared.nodes.Node.{Node}
use Rattle.bit_net.specs.Runs.{Runs}
use Rattle.gl_sets.specs.declared.pairs.Pair.{Pair}
use Rattle.gl_sets.specs.Guards.{Points, guards_top}
use Rattle.gl_store.specs.declared.values.Val.{Val}
use Rattle.gl_store.specs.declared.stores.Location.{Location}
use Rattle.gl_store.specs.Meets.{Meets, kinds, locations_top, val_top}
use Rattle.run_store.specs.Concrete.{Cell}
use Rattle.run_store.specs.declared.Flag.{Flag}
use Rattle.sum_rows.specs.declared.row.State.{State}
use Rattle.sum_rows.specs.declared.row.State.TheVariants as state
use Rattle.sc_world.specs.Source.{Source}
use Rattle.sc_world.specs.Layout.{Layout, Spot, is_there}
use Rattle.sc_world.specs.World.{Env, Run, bit_at, number_at, target_of, target_or_null}
use Rattle.sc_world.specs.Known.{Outed, out_cell, out_state, set_out_as, set_outs}
use Rattle.gate_runs.specs.declared.ends.Ends.{Ends}
use Rattle.gate_runs.specs.Stands.{Does, Any}
use Rattle.gate_objects.specs.Escapes.{mark_target}
use Rattle.gate_places.specs.Places.{env_of}
use Rattle.gate_paths.specs.declared.gathered.Found.{Found}
use Rattle.gate_paths.specs.Targets.{found_target}
use Rattle.gate_paths.specs.Paths.{IsFound}
use Rattle.gate_paths.specs.Gathered.{Shows, put_out, where_item}

-- what the choice says of a pointer with that first bit
abbrev pub state_by : (bits : List Bool) (bit : ℕ) → State
state_by bits bit = out_state (number_at bits bit 2)

-- the value that the pointer gets, whatever was there; of one that is as before it is not stored
pub record IsOutCell (p : Layout) (ns : List Node) (spot : Spot) (r : Val) : Type 0 where
  pub below : val_top r ≤ length ns
  pub meets : (bits : List Bool) (v : ℕ → Bool) → Runs ns (bit_at bits) v → length bits ≤ p.bits → Meets v r (out_cell (state_by bits spot.bit) spot.object)

-- the target of a pointer that gets a value, and 0 where it is as before
abbrev pub changed_target : State → (target : ℕ) → ℕ
changed_target state.Same t = 0
changed_target s t = t

pub record IsChanged (p : Layout) (ns : List Node) (bit : ℕ) (at pairs : List Pair) : Type 0 where
  pub below : guards_top pairs ≤ length ns
  pub points : (bits : List Bool) (v : ℕ → Bool) → Runs ns (bit_at bits) v → length bits ≤ p.bits → (target : ℕ) → Points v at target
      → Points v pairs (changed_target (state_by bits bit) target)

-- the object of a pointer that is there and gets the state with that number; else null
abbrev pub object_if : Bool → Option ℕ → ℕ
object_if b object = if b then target_of (target_or_null object) else 0

pub record MarksObject (p : Layout) (ns : List Node) (gates : Ends) (f : Flag) (n : ℕ) (spot : Spot) (at : List Pair) (old new : List Location) : Type 0 where
  pub top : locations_top new ≤ length ns
  pub same : kinds new ≡ kinds old
  pub does : (bits : List Bool) (v : ℕ → Bool) → Runs ns (bit_at bits) v → length bits ≤ p.bits → (o : Option ℕ) → IsFound v at o
      → Does v old gates (mark_target (object_if (is_there o && nat_eq (number_at bits spot.bit 2) n) spot.object) f) new gates (Any {A = Unit {0}})

-- one pointer gets what the choice says
abbrev pub set_one : Env → Outed → Run (Unit {0})
set_one env o = set_out_as (state_by env.choice o.bit) o

-- All pointers that the sets show get what the choice says, and their objects are marked; the choice has no more bits than the layout.
pub record SetsOuts (s : Source) (p : Layout) (ns : List Node) (gates : Ends) (outs : List Found) (old new : List Location) : Type 0 where
  pub top : locations_top new ≤ length ns
  pub same : kinds new ≡ kinds old
  pub does : (bits : List Bool) (v : ℕ → Bool) → Runs ns (bit_at bits) v → length bits ≤ p.bits → (temps : List Cell) (turn : ℕ) (os : List Outed)
      → Shows v where_item put_out outs os
      → Does v old gates (set_outs (env_of s p bits temps turn) os) new gates (Any {A = Unit {0}})
