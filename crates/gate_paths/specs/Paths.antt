-- Where a path of a summary leads, as gates: for every choice, and for all cells that the arguments are, it leads where it leads in a run.
use Rattle.std.specs.Prelude.{ℕ, ◌≤◌, Bool, Option, List, length, slice_index_or}
use Rattle.bit_net.specs.declared.nodes.Node.{Node}
use Rattle.bit_net.specs.Runs.{Runs}
use Rattle.gl_sets.specs.declared.pairs.Pair.{Pair}
use Rattle.gl_sets.specs.Guards.{Points, guards_top}
use Rattle.gl_store.specs.declared.values.Val.{Val}
use Rattle.gl_store.specs.declared.stores.Location.{Location}
use Rattle.gl_store.specs.Meets.{MeetsAll}
use Rattle.run_store.specs.Concrete.{Cell, Place}
use Rattle.sum_rows.specs.declared.path.Path.{Path}
use Rattle.sum_rows.specs.declared.path.Step.{Step}
use Rattle.sum_rows.specs.declared.row.Item.TheVariants as item
use Rattle.sc_world.specs.Source.{Source}
use Rattle.sc_world.specs.Layout.{Layout}
use Rattle.sc_world.specs.World.{null, target_of}
use Rattle.sc_world.specs.Known.{follow_path, out_item}
use Rattle.gate_runs.specs.declared.ends.Ends.{Ends}
use Rattle.gate_runs.specs.Stands.{Does}
use Rattle.gate_places.specs.Places.{env_of}
use Rattle.gate_objects.specs.Escapes.{MeetsEach}
use Rattle.gate_paths.specs.Targets.{argument_target, found_target, global_target}

-- The set points to the location that was found, and to 0 where none was: of the guards of locations just that one holds, or none.
abbrev pub IsFound : (v : ℕ → Bool) → List Pair → Option ℕ → Type 0
IsFound v pairs found = Points v pairs (found_target found)

-- the pointer that the argument with a number is
pub record IsArgument (ns : List Node) (args : List Val) (n : ℕ) (pairs : List Pair) : Type 0 where
  pub below : guards_top pairs ≤ length ns
  pub points : (choice v : ℕ → Bool) → Runs ns choice v → (cs : List Cell) → MeetsEach v args cs → Points v pairs (target_of (slice_index_or cs n null))

-- steps from a global, and from what an argument points to
pub record FromGlobal (ns : List Node) (p : Layout) (locations : List Location) (n : ℕ) (steps : List Step) (pairs : List Pair) : Type 0 where
  pub below : guards_top pairs ≤ length ns
  pub points : (choice v : ℕ → Bool) → Runs ns choice v → (ps : List Place) → MeetsAll v locations ps → Points v pairs (global_target p ps n steps)

pub record FromArgument (ns : List Node) (p : Layout) (locations : List Location) (args : List Val) (n : ℕ) (steps : List Step) (pairs : List Pair) : Type 0
  where
    pub below : guards_top pairs ≤ length ns
    pub points : (choice v : ℕ → Bool) → Runs ns choice v → (ps : List Place) → MeetsAll v locations ps → (cs : List Cell) → MeetsEach v args cs
        → Points v pairs (argument_target p ps (slice_index_or cs n null) steps)

-- A path from the arguments and globals of a call. Nothing is changed, and it is found also where the run is over.
pub record FollowsPath (ns : List Node) (p : Layout) (locations : List Location) (args : List Val) (path : Path) (pairs : List Pair) : Type 0 where
  pub below : guards_top pairs ≤ length ns
  pub does : (choice v : ℕ → Bool) → Runs ns choice v → (gates : Ends) (s : Source) (bits : List Bool) (temps : List Cell) (turn : ℕ) (cs : List Cell)
      → MeetsEach v args cs
      → Does v locations gates (follow_path (env_of s p bits temps turn) cs path) locations gates (IsFound v pairs)

-- The pointer that the parameter with a number points to, if it is not missing.
pub record FollowsOut (ns : List Node) (p : Layout) (locations : List Location) (args : List Val) (n : ℕ) (pairs : List Pair) : Type 0 where
  pub below : guards_top pairs ≤ length ns
  pub does : (choice v : ℕ → Bool) → Runs ns choice v → (gates : Ends) (s : Source) (bits : List Bool) (temps : List Cell) (turn : ℕ) (cs : List Cell)
      → MeetsEach v args cs
      → Does v locations gates (out_item (env_of s p bits temps turn) cs (item.Out n)) locations gates (IsFound v pairs)
