-- The states of locations before and after a known call, as gates: for every choice words spell their numbers.
use Rattle.std.specs.Prelude.{◌≡◌, ℕ, zero, suc, ◌+◌, ◌≤◌, Bool, Some, List, [], ◌∷◌, length, if◌then◌else◌}
use Rattle.bit_net.specs.declared.nodes.Gate.{Gate}
use Rattle.bit_net.specs.declared.nodes.Node.{Node}
use Rattle.bit_net.specs.Runs.{Runs}
use Rattle.bit_words.specs.Number.{number, top}
use Rattle.gl_sets.specs.declared.pairs.Pair.{Pair}
use Rattle.gl_sets.specs.Guards.{held}
use Rattle.gl_store.specs.declared.stores.Location.{Location}
use Rattle.gl_store.specs.Meets.{MeetsAll}
use Rattle.run_store.specs.Concrete.{Cell, Place, nth_cell}
use Rattle.sum_rows.specs.declared.row.Row.{Row}
use Rattle.sc_world.specs.Source.{Source}
use Rattle.sc_world.specs.Layout.{Layout}
use Rattle.sc_world.specs.World.{bit_at, number_of, state_of, state_width}
use Rattle.sc_world.specs.Known.{state_after}
use Rattle.gate_runs.specs.declared.ends.Ends.{Ends}
use Rattle.gate_runs.specs.Stands.{Does}
use Rattle.gate_places.specs.Places.{env_of}
use Rattle.gate_paths.specs.Paths.{IsFound}

-- the state of a location, which stands so far behind its cell
abbrev pub state_in : Layout → List Place → (at : ℕ) → ℕ
state_in p ps at = number_of (nth_cell ps (length p.locations + at))

-- The word spells the state of the location to which the set points. Nothing is changed, and it is so also where the run is over.
pub record IsStateBefore (p : Layout) (ns : List Node) (locations : List Location) (pairs : List Pair) (word : List Gate) : Type 0 where
  pub below : top word ≤ length ns
  pub does : (choice v : ℕ → Bool) → Runs ns choice v → (at : ℕ) → IsFound v pairs (Some at) → (gates : Ends) (s : Source) (bits : List Bool)
      (temps : List Cell) (turn : ℕ)
      → Does v locations gates (state_of (env_of s p bits temps turn) at) locations gates (λ n. number v word ≡ n)
  pub value : (choice v : ℕ → Bool) → Runs ns choice v → (ps : List Place) → MeetsAll v locations ps → (at : ℕ) → IsFound v pairs (Some at)
      → number v word ≡ state_in p ps at

-- The word spells the state that the choice names of a location, which is said of it from that bit on.
pub record IsStateAfter (s : Source) (p : Layout) (ns : List Node) (bit : ℕ) (word : List Gate) : Type 0 where
  pub wide : length word ≡ state_width
  pub below : top word ≤ length ns
  pub value : (bits : List Bool) (v : ℕ → Bool) → Runs ns (bit_at bits) v → length bits ≤ p.bits → (temps : List Cell) (turn : ℕ)
      (rows : List Row) (at : ℕ)
      → number v word ≡ state_after (env_of s p bits temps turn) (record { rows = rows; bit = bit; at = at })

-- Pairs, one after the other.

-- the state of a target, where the guard of its pair holds; else the state that there is
abbrev pub state_where : Layout → List Place → (holds : Bool) → (target : ℕ) → (state : ℕ) → ℕ
state_where p ps b zero n = n
state_where p ps b (suc at) n = if b then state_in p ps at else n

pub record HasStateWhere (p : Layout) (ns : List Node) (locations : List Location) (pair : Pair) (old new : List Gate) : Type 0 where
  pub below : top new ≤ length ns
  pub value : (choice v : ℕ → Bool) → Runs ns choice v → (ps : List Place) → MeetsAll v locations ps
      → number v new ≡ state_where p ps (v pair.guard.at) pair.target (number v old)

-- the state of the location of the one pair whose guard holds
pub record HasStates (p : Layout) (ns : List Node) (locations : List Location) (pairs : List Pair) (word : List Gate) : Type 0 where
  pub below : top word ≤ length ns
  pub value : (choice v : ℕ → Bool) → Runs ns choice v → (ps : List Place) → MeetsAll v locations ps → (at : ℕ) → held v pairs ≡ suc at ∷ []
      → number v word ≡ state_in p ps at
