-- The other written cells after a known call, as gates: each cell of its width that is not missing gets what the choice says.
use Rattle.std.specs.Prelude.{◌≡◌, ℕ, zero, suc, ◌≤◌, nat_eq, Bool, Option, List, length, if◌then◌else◌}
use Rattle.bit_net.specs.declared.nodes.Node.{Node}
use Rattle.bit_net.specs.Runs.{Runs}
use Rattle.gl_sets.specs.declared.pairs.Pair.{Pair}
use Rattle.gl_sets.specs.Guards.{Points, guards_top}
use Rattle.gl_store.specs.declared.values.Val.{Val}
use Rattle.gl_store.specs.declared.stores.Location.{Location}
use Rattle.gl_store.specs.Meets.{Meets, kinds, locations_top, val_top}
use Rattle.run_store.specs.Concrete.{Cell, Kind, Numbers, Pointers}
use Rattle.sc_world.specs.Tree.{Ty}
use Rattle.sc_world.specs.Source.{Source}
use Rattle.sc_world.specs.Layout.{Layout, Spot, location}
use Rattle.sc_world.specs.World.{bit_at, kind_of_type}
use Rattle.sc_world.specs.Known as known
use Rattle.sc_world.specs.Known.{same_kind, set_writes, written_cell}
use Rattle.gate_runs.specs.declared.ends.Ends.{Ends}
use Rattle.gate_runs.specs.Stands.{Does, Any}
use Rattle.gate_places.specs.Places.{env_of}
use Rattle.gate_paths.specs.declared.cells.Written.{Written}
use Rattle.gate_paths.specs.Cells.{put_written, where_cell}
use Rattle.gate_paths.specs.Gathered.{Shows}

-- the kind of a written cell of that width: 0 is the width of pointers
abbrev pub written_kind : (width : ℕ) → Kind
written_kind width = if nat_eq width 0 then Pointers else Numbers width

-- whether a location of that type is written
abbrev pub takes : Source → Option Ty → (width : ℕ) → Bool
takes s t width = same_kind (kind_of_type s t) (written_kind width)

-- a target whose location is written; another one goes to 0
abbrev pub taken_target : Source → Layout → (width target : ℕ) → ℕ
taken_target s p width zero = zero
taken_target s p width (suc at) = if takes s (location p at).type width then suc at else zero

pub record AreTaken (s : Source) (p : Layout) (ns : List Node) (width : ℕ) (at pairs : List Pair) : Type 0 where
  pub below : guards_top pairs ≤ length ns
  pub points : (choice v : ℕ → Bool) → Runs ns choice v → (target : ℕ) → Points v at target → Points v pairs (taken_target s p width target)

-- the value that the choice gives to a written cell, wherever that is
pub record IsWrittenCell (s : Source) (p : Layout) (ns : List Node) (width : ℕ) (spot : Spot) (r : Val) : Type 0 where
  pub below : val_top r ≤ length ns
  pub meets : (bits : List Bool) (v : ℕ → Bool) → Runs ns (bit_at bits) v → length bits ≤ p.bits → (temps : List Cell) (turn at : ℕ)
      → Meets v r (written_cell (env_of s p bits temps turn) (record { width = width; bit = spot.bit; object = spot.object; at = at }))

-- All cells that the sets show get what the choice says, but those of another width; the choice has no more bits than the layout.
pub record SetsWrites (s : Source) (p : Layout) (ns : List Node) (gates : Ends) (writes : List Written) (old new : List Location) : Type 0 where
  pub top : locations_top new ≤ length ns
  pub same : kinds new ≡ kinds old
  pub does : (bits : List Bool) (v : ℕ → Bool) → Runs ns (bit_at bits) v → length bits ≤ p.bits → (temps : List Cell) (turn : ℕ) (ws : List known.Written)
      → Shows v where_cell put_written writes ws
      → Does v old gates (set_writes (env_of s p bits temps turn) ws) new gates (Any {A = Unit {0}})
