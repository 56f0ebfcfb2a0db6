-- The states of locations after a known call, as gates: each location that is not missing gets the state that the choice names, and is touched.
use Rattle.std.specs.Prelude.{◌≡◌, ℕ, zero, suc, ◌+◌, ◌≤◌, Bool, List, length, map}
use Rattle.bit_net.specs.declared.nodes.Node.{Node}
use Rattle.bit_net.specs.Runs.{Runs}
use Rattle.gl_sets.specs.declared.pairs.Pair.{Pair}
use Rattle.gl_sets.specs.Guards.{Points, guards_top}
use Rattle.gl_store.specs.declared.stores.Location.{Location}
use Rattle.gl_store.specs.Meets.{kinds, locations_top}
use Rattle.run_store.specs.declared.Flag.TheVariants as flag
use Rattle.run_store.specs.Concrete.{Cell}
use Rattle.sc_world.specs.Source.{Source}
use Rattle.sc_world.specs.Layout.{Layout}
use Rattle.sc_world.specs.World.{Env, Run, ◌>>=◌, bit_at, mark, set_state}
use Rattle.sc_world.specs.Known.{Locked, set_states, state_after}
use Rattle.gate_runs.specs.declared.ends.Ends.{Ends}
use Rattle.gate_runs.specs.Stands.{Does, Any}
use Rattle.gate_places.specs.Places.{env_of}
use Rattle.gate_paths.specs.declared.gathered.Found.{Found}
use Rattle.gate_paths.specs.Gathered.{Shows, put_locked, where_item}

-- the target of the state of a location, of which there are so many: the states stand behind the cells; what is missing has none
abbrev pub state_target : (size target : ℕ) → ℕ
state_target size zero = zero
state_target size (suc at) = suc (size + at)

-- the set of the states of the locations of a set
pub record AreStatesOf (p : Layout) (ns : List Node) (at states : List Pair) : Type 0 where
  pub below : guards_top states ≤ length ns
  pub points : (choice v : ℕ → Bool) → Runs ns choice v → (target : ℕ) → Points v at target → Points v states (state_target (length p.locations) target)

-- one location gets its state, and is touched
abbrev pub set_one : Env → Locked → Run (Unit {0})
set_one env l = set_state env l.at (state_after env l) >>= λ _. mark l.at flag.Touched

-- All locations that the sets show get the states that the choice names, and are touched; the choice has no more bits than the layout.
pub record SetsStates (s : Source) (p : Layout) (ns : List Node) (gates : Ends) (locks : List Found) (old new : List Location) : Type 0 where
  pub top : locations_top new ≤ length ns
  pub same : kinds new ≡ kinds old
  pub does : (bits : List Bool) (v : ℕ → Bool) → Runs ns (bit_at bits) v → length bits ≤ p.bits → (temps : List Cell) (turn : ℕ) (ls : List Locked)
      → Shows v where_item put_locked locks ls
      → Does v old gates (set_states (env_of s p bits temps turn) (map (state_after (env_of s p bits temps turn)) ls) ls) new gates (Any {A = Unit {0}})
