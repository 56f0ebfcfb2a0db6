-- What a known call does to the objects of its parameters, as gates: for every choice they escape or are freed as they are in a run.
use Rattle.std.specs.Prelude.{◌≡◌, ℕ, ◌≤◌, nat_eq, Bool, List, length, slice_index_or, if◌then◌else◌}
use Rattle.bit_net.specs.declared.nodes.Node.{Node}
use Rattle.bit_net.specs.Runs.{Runs}
use Rattle.gl_sets.specs.declared.pairs.Pair.{Pair}
use Rattle.gl_sets.specs.Guards.{Points, guards_top}
use Rattle.gl_store.specs.declared.values.Val.{Val}
use Rattle.gl_store.specs.declared.stores.Location.{Location}
use Rattle.gl_store.specs.Meets.{Meets, kinds, locations_top}
use Rattle.run_store.specs.Concrete.{Cell}
use Rattle.sum_rows.specs.declared.row.Item.{Item}
use Rattle.sum_rows.specs.declared.row.ItemRows.{ItemRows}
use Rattle.sc_world.specs.Source.{Source}
use Rattle.sc_world.specs.Layout.{Layout}
use Rattle.sc_world.specs.World.{bit_at, null, number_at}
use Rattle.sc_world.specs.Known as known
use Rattle.sc_world.specs.Known.{Locked, Outed, param_acts, param_effect, param_spot, param_state, params_act}
use Rattle.gate_runs.specs.declared.ends.Ends.{Ends}
use Rattle.gate_runs.specs.Stands.{Does, Any}
use Rattle.gate_places.specs.Places.{env_of}
use Rattle.gate_objects.specs.Escapes.{MeetsEach}
use Rattle.gate_states.specs.declared.called.Called.{Called}
use Rattle.gate_states.specs.Called.{acting_of}

-- the set points where another one does if two bits of the choice spell n, else to null
pub record IsPickedBy (p : Layout) (ns : List Node) (bit n : ℕ) (pointer picked : List Pair) : Type 0 where
  pub below : guards_top picked ≤ length ns
  pub points : (bits : List Bool) (v : ℕ → Bool) → Runs ns (bit_at bits) v → length bits ≤ p.bits → (target : ℕ) → Points v pointer target
      → Points v picked (if nat_eq (number_at bits bit 2) n then target else 0)

-- the object of what a value points to is kept, escapes, or is freed, by two bits of the choice
pub record DoesParamEffect (p : Layout) (ns : List Node) (bit : ℕ) (val : Val) (old new : List Location) (old_gates new_gates : Ends) : Type 0 where
  pub top : locations_top new ≤ length ns
  pub same : kinds new ≡ kinds old
  pub does : (bits : List Bool) (v : ℕ → Bool) → Runs ns (bit_at bits) v → length bits ≤ p.bits → (s : Source) (temps : List Cell) (turn : ℕ) (c : Cell)
      → Meets v val c
      → Does v old old_gates (param_effect (env_of s p bits temps turn) (param_state (number_at bits bit 2)) c) new new_gates (Any {A = Unit {0}})

-- the same for the argument with a number, which is null where it is not there
pub record DoesArgumentEffect (p : Layout) (ns : List Node) (args : List Val) (n bit : ℕ) (old new : List Location) (old_gates new_gates : Ends) : Type 0 where
  pub top : locations_top new ≤ length ns
  pub same : kinds new ≡ kinds old
  pub does : (bits : List Bool) (v : ℕ → Bool) → Runs ns (bit_at bits) v → length bits ≤ p.bits → (s : Source) (temps : List Cell) (turn : ℕ)
      (cs : List Cell) → MeetsEach v args cs
      → Does v old old_gates (param_effect (env_of s p bits temps turn) (param_state (number_at bits bit 2)) (slice_index_or cs n null)) new new_gates
      (Any {A = Unit {0}})

-- the same for the parameter of an item, with that spot; nothing for an item of another sort
pub record DoesParamAct (p : Layout) (ns : List Node) (args : List Val) (spot : ℕ) (item : Item) (old new : List Location) (old_gates new_gates : Ends) : Type 0
  where
    pub top : locations_top new ≤ length ns
    pub same : kinds new ≡ kinds old
    pub does : (bits : List Bool) (v : ℕ → Bool) → Runs ns (bit_at bits) v → length bits ≤ p.bits → (s : Source) (temps : List Cell) (turn : ℕ)
        (cs : List Cell) → MeetsEach v args cs
        → Does v old old_gates (param_acts (env_of s p bits temps turn) cs spot item) new new_gates (Any {A = Unit {0}})

-- the parameters of items, one after the other; the first of them has that spot
pub record DoesParamsAct (p : Layout) (ns : List Node) (args : List Val) (spot : ℕ) (items : List ItemRows) (old new : List Location)
    (old_gates new_gates : Ends) : Type 0 where
  pub top : locations_top new ≤ length ns
  pub same : kinds new ≡ kinds old
  pub does : (bits : List Bool) (v : ℕ → Bool) → Runs ns (bit_at bits) v → length bits ≤ p.bits → (s : Source) (temps : List Cell) (turn : ℕ)
      (cs : List Cell) → MeetsEach v args cs
      → Does v old old_gates (params_act (env_of s p bits temps turn) cs spot items) new new_gates (Any {A = Unit {0}})

-- What a call does to the objects of its parameters; the choice has no more bits than the layout.
pub record DoesParams (p : Layout) (ns : List Node) (c : Called) (old new : List Location) (old_gates new_gates : Ends) : Type 0 where
  pub top : locations_top new ≤ length ns
  pub same : kinds new ≡ kinds old
  pub does : (bits : List Bool) (v : ℕ → Bool) → Runs ns (bit_at bits) v → length bits ≤ p.bits → (s : Source) (temps : List Cell) (turn : ℕ)
      (cs : List Cell) → MeetsEach v c.args.now cs → (ls : List Locked) (os : List Outed) (ws : List known.Written)
      → Does v old old_gates (params_act (env_of s p bits temps turn) cs (param_spot (acting_of c cs ls os ws)) c.summary.now.items) new new_gates
      (Any {A = Unit {0}})
