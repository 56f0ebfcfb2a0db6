-- The rows of locations, and of pointers that parameters point to, as gates: for every choice each stands where the definition has it.
use Rattle.std.specs.Prelude.{◌≡◌, ℕ, ◌<◌, ◌≤◌, Bool, true, ◌&&◌, Option, Some, None, List, [], ◌∷◌, length}
use Rattle.bit_net.specs.declared.nodes.Gate.{Gate}
use Rattle.bit_net.specs.declared.nodes.Node.{Node}
use Rattle.bit_net.specs.Runs.{Runs}
use Rattle.bit_words.specs.Number.{number}
use Rattle.gl_store.specs.declared.stores.Location.{Location}
use Rattle.gl_store.specs.Meets.{MeetsAll}
use Rattle.run_store.specs.Concrete.{Cell, Place}
use Rattle.sum_rows.specs.declared.row.Gives.{Gives}
use Rattle.sum_rows.specs.declared.row.Row.{Row}
use Rattle.sum_rows.specs.declared.row.State.TheVariants as state
use Rattle.sc_world.specs.Source.{Source}
use Rattle.sc_world.specs.Layout.{Layout}
use Rattle.sc_world.specs.World.{Env, bit_at, states}
use Rattle.sc_world.specs.Known.{from_state, out_stands, out_state, row, stands, state_after}
use Rattle.layout_base.specs.Seen.{spot_of}
use Rattle.gate_places.specs.Places.{env_of}
use Rattle.gate_paths.specs.declared.gathered.Found.{Found}
use Rattle.gate_paths.specs.Paths.{IsFound}
use Rattle.gate_paths.specs.Gathered.{AreFound, where_item}
use Rattle.gate_rows.specs.declared.sought.Outcome.{Outcome}
use Rattle.gate_rows.specs.Sought.{gives_of}
use Rattle.gate_states.specs.States.{state_in}

-- the row that is sought of a location: from the state that the first bits spell, also from any state, to that of the others
pub record IsLockRow (ns : List Node) (given before : List Gate) (count : ℕ) (result : Outcome) (after : List Gate) (rows : List Row) (gate : ℕ) : Type 0 where
  pub below : gate < length ns
  pub value : (choice v : ℕ → Bool) → Runs ns choice v → (env : Env) → count ≡ states env.source
      → v gate ≡ from_state env (number v given) (number v before) (gives_of v result) (state.At (number v after)) rows

-- the row that is sought of a pointer that a parameter points to
pub record IsOutRow (ns : List Node) (given : List Gate) (result : Outcome) (after : List Gate) (rows : List Row) (gate : ℕ) : Type 0 where
  pub below : gate < length ns
  pub value : (choice v : ℕ → Bool) → Runs ns choice v
      → v gate ≡ stands (row (number v given) state.Nil (gives_of v result) (out_state (number v after))) rows

-- whether the row of a location stands, by the state that the store has there; what is missing needs none
abbrev pub lock_at_stands : Env → List Place → (given : ℕ) → Gives → Found → Option ℕ → Bool
lock_at_stands env ps g r f None = true
lock_at_stands env ps g r f (Some at) =
    from_state env g (state_in env.layout ps at) r
    (state.At (state_after env (record { rows = f.rows.now; bit = (spot_of f.spot).bit; at = at })))
    f.rows.now

-- the same of a pointer that a parameter points to
abbrev pub out_at_stands : Env → (given : ℕ) → Gives → Found → Option ℕ → Bool
out_at_stands env g r f None = true
out_at_stands env g r f (Some at) =
    out_stands env g r (record { rows = f.rows.now; bit = (spot_of f.spot).bit; object = (spot_of f.spot).object; at = at })

-- all of them pass a test, each with where it is
abbrev pub all_stand : (Found → Option ℕ → Bool) → List Found → List (Option ℕ) → Bool
all_stand test [] os = true
all_stand test (f ∷ fs) [] = true
all_stand test (f ∷ fs) (o ∷ os) = test f o && all_stand test fs os

-- The choice has no more bits than the layout.
pub record LockStands (s : Source) (p : Layout) (ns : List Node) (locations : List Location) (given : List Gate) (result : Outcome) (f : Found) (gate : ℕ) :
    Type 0 where
  pub below : gate < length ns
  pub value : (bits : List Bool) (v : ℕ → Bool) → Runs ns (bit_at bits) v → length bits ≤ p.bits → (temps : List Cell) (turn : ℕ)
      → (ps : List Place) → MeetsAll v locations ps → (o : Option ℕ) → IsFound v (where_item f) o
      → v gate ≡ lock_at_stands (env_of s p bits temps turn) ps (number v given) (gives_of v result) f o

pub record LocksStand (s : Source) (p : Layout) (ns : List Node) (locations : List Location) (given : List Gate) (result : Outcome) (fs : List Found)
    (gate : ℕ) : Type 0 where
  pub below : gate < length ns
  pub value : (bits : List Bool) (v : ℕ → Bool) → Runs ns (bit_at bits) v → length bits ≤ p.bits → (temps : List Cell) (turn : ℕ)
      → (ps : List Place) → MeetsAll v locations ps → (os : List (Option ℕ)) → AreFound v where_item fs os
      → v gate ≡ all_stand (lock_at_stands (env_of s p bits temps turn) ps (number v given) (gives_of v result)) fs os

pub record OutStands (s : Source) (p : Layout) (ns : List Node) (given : List Gate) (result : Outcome) (f : Found) (gate : ℕ) : Type 0 where
  pub below : gate < length ns
  pub value : (bits : List Bool) (v : ℕ → Bool) → Runs ns (bit_at bits) v → length bits ≤ p.bits → (temps : List Cell) (turn : ℕ)
      → (o : Option ℕ) → IsFound v (where_item f) o
      → v gate ≡ out_at_stands (env_of s p bits temps turn) (number v given) (gives_of v result) f o

pub record OutsStand (s : Source) (p : Layout) (ns : List Node) (given : List Gate) (result : Outcome) (fs : List Found) (gate : ℕ) : Type 0 where
  pub below : gate < length ns
  pub value : (bits : List Bool) (v : ℕ → Bool) → Runs ns (bit_at bits) v → length bits ≤ p.bits → (temps : List Cell) (turn : ℕ)
      → (os : List (Option ℕ)) → AreFound v where_item fs os
      → v gate ≡ all_stand (out_at_stands (env_of s p bits temps turn) (number v given) (gives_of v result)) fs os
