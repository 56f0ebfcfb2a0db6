-- The rows of parameters, as gates: for every choice, and for all cells that the arguments are, each stands where the definition has it.
use Rattle.std.specs.Prelude.{◌≡◌, ℕ, ◌<◌, ◌≤◌, Bool, not, List, length, slice_index_or}
use Rattle.bit_net.specs.declared.nodes.Gate.{Gate}
use Rattle.bit_net.specs.declared.nodes.Node.{Node}
use Rattle.bit_net.specs.Runs.{Runs}
use Rattle.bit_words.specs.Number.{number}
use Rattle.gl_store.specs.declared.values.Val.{Val}
use Rattle.run_store.specs.Concrete.{Cell}
use Rattle.sum_rows.specs.declared.row.ItemRows.{ItemRows}
use Rattle.sum_rows.specs.declared.row.Row.{Row}
use Rattle.sc_world.specs.Source.{Source}
use Rattle.sc_world.specs.Layout.{Layout}
use Rattle.sc_world.specs.World.{bit_at, is_true, null, number_at}
use Rattle.sc_world.specs.Known.{param_stands, param_state, params_stand, stands_if}
use Rattle.gate_places.specs.Places.{env_of}
use Rattle.gate_objects.specs.Escapes.{MeetsEach}
use Rattle.gate_rows.specs.declared.sought.Outcome.{Outcome}
use Rattle.gate_rows.specs.Sought.{gives_of}

-- the argument with a number is 0, null or not there
pub record IsNoArgument (ns : List Node) (args : List Val) (n gate : ℕ) : Type 0 where
  pub below : gate < length ns
  pub value : (choice v : ℕ → Bool) → Runs ns choice v → (cs : List Cell) → MeetsEach v args cs → v gate ≡ not (is_true (slice_index_or cs n null))

-- the row that is sought of a parameter
pub record IsParamRow (ns : List Node) (given : List Gate) (result : Outcome) (after : List Gate) (rows : List Row) (gate : ℕ) : Type 0 where
  pub below : gate < length ns
  pub value : (choice v : ℕ → Bool) → Runs ns choice v → v gate ≡ stands_if (number v given) (gives_of v result) (param_state (number v after)) rows

-- the row that the choice names from that bit on is among these; the choice has no more bits than the layout
pub record ParamRowStands (p : Layout) (ns : List Node) (given : List Gate) (result : Outcome) (bit : ℕ) (rows : List Row) (gate : ℕ) : Type 0 where
  pub below : gate < length ns
  pub value : (bits : List Bool) (v : ℕ → Bool) → Runs ns (bit_at bits) v → length bits ≤ p.bits
      → v gate ≡ stands_if (number v given) (gives_of v result) (param_state (number_at bits bit 2)) rows

pub record ParamStands (s : Source) (p : Layout) (ns : List Node) (args : List Val) (given : List Gate) (result : Outcome) (spot : ℕ) (x : ItemRows)
    (gate : ℕ) : Type 0 where
  pub below : gate < length ns
  pub value : (bits : List Bool) (v : ℕ → Bool) → Runs ns (bit_at bits) v → length bits ≤ p.bits → (temps : List Cell) (turn : ℕ)
      → (cs : List Cell) → MeetsEach v args cs
      → v gate ≡ param_stands (env_of s p bits temps turn) cs (number v given) (gives_of v result) spot x

pub record ParamsStand (s : Source) (p : Layout) (ns : List Node) (args : List Val) (given : List Gate) (result : Outcome) (spot : ℕ) (items : List ItemRows)
    (gate : ℕ) : Type 0 where
  pub below : gate < length ns
  pub value : (bits : List Bool) (v : ℕ → Bool) → Runs ns (bit_at bits) v → length bits ≤ p.bits → (temps : List Cell) (turn : ℕ)
      → (cs : List Cell) → MeetsEach v args cs
      → v gate ≡ params_stand (env_of s p bits temps turn) cs (number v given) (gives_of v result) spot items
