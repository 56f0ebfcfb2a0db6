-- The written cells of a summary that no item tells of, as gates: for every choice the sets show those that a run finds, in their order.
use Rattle.std.specs.Prelude.{ℕ, ◌≤◌, Bool, true, false, not, Option, Some, None, List, [], ◌∷◌, ◌++◌, length, All}
use Rattle.bit_net.specs.declared.nodes.Node.{Node}
use Rattle.bit_net.specs.Runs.{Runs}
use Rattle.gl_sets.specs.declared.pairs.Pair.{Pair}
use Rattle.gl_sets.specs.Guards.{guards_top}
use Rattle.gl_store.specs.declared.values.Val.{Val}
use Rattle.gl_store.specs.declared.stores.Location.{Location}
use Rattle.run_store.specs.Concrete.{Cell}
use Rattle.sum_rows.specs.declared.row.ItemRows.{ItemRows}
use Rattle.sum_rows.specs.declared.row.Write.{Write}
use Rattle.sc_world.specs.Source.{Source}
use Rattle.sc_world.specs.Layout.{Layout, spot_at}
use Rattle.sc_world.specs.Occurrences.{is_out_path}
use Rattle.sc_world.specs.World.{Env, Run, ◌>>=◌, done}
use Rattle.sc_world.specs.Known as known
use Rattle.sc_world.specs.Known.{follow_path, spot_behind, with_written, writes}
use Rattle.layout_base.specs.Seen.{spot_of}
use Rattle.gate_runs.specs.declared.ends.Ends.{Ends}
use Rattle.gate_runs.specs.Stands.{Does}
use Rattle.gate_places.specs.Places.{env_of}
use Rattle.gate_objects.specs.Escapes.{MeetsEach}
use Rattle.gate_paths.specs.declared.cells.Written.{Written}
use Rattle.gate_paths.specs.Gathered.{Shows}

-- what the sets of cells are, and what the definition makes of a cell
abbrev pub where_cell : Written → List Pair
where_cell x = x.at.pairs.items

abbrev pub put_written : Written → Option ℕ → List known.Written → List known.Written
put_written x o ws = with_written x.width (spot_of x.spot) o ws

abbrev pub AreCellsBelow : List Node → List Written → Type 0
AreCellsBelow ns xs = All (λ x. guards_top (where_cell x) ≤ length ns) xs

-- the spot of a cell, unless an item tells of it
abbrev pub spot_of_cell : (told : Bool) → (spot : ℕ) → Option ℕ
spot_of_cell true k = None
spot_of_cell false k = Some k

-- one cell more behind those that there are, if it has a spot
abbrev pub write_more : Env → List Cell → (spot : Option ℕ) → Write → List known.Written → Run (List known.Written)
write_more env cs None x ws = done ws
write_more env cs (Some k) x ws = follow_path env cs x.path >>= λ o. done (ws ++ with_written x.width (spot_at env.layout k) o [])

pub record AddsWrite (ns : List Node) (p : Layout) (locations : List Location) (args : List Val) (spot : Option ℕ) (x : Write) (old new : List Written) : Type
    0 where
  pub below : AreCellsBelow ns new
  pub does : (choice v : ℕ → Bool) → Runs ns choice v → (gates : Ends) (s : Source) (bits : List Bool) (temps : List Cell) (turn : ℕ) (cs : List Cell)
      → MeetsEach v args cs
      → (ws : List known.Written) → Shows v where_cell put_written old ws
      → Does v locations gates (write_more (env_of s p bits temps turn) cs spot x ws) locations gates (Shows v where_cell put_written new)

-- The written cells of a call that no item tells of. Nothing is changed.
pub record FindsWrites (ns : List Node) (p : Layout) (locations : List Location) (args : List Val) (items : List ItemRows) (spot : ℕ) (cells : List Write)
    (found : List Written) : Type 0 where
  pub below : AreCellsBelow ns found
  pub does : (choice v : ℕ → Bool) → Runs ns choice v → (gates : Ends) (s : Source) (bits : List Bool) (temps : List Cell) (turn : ℕ) (cs : List Cell)
      → MeetsEach v args cs
      → Does v locations gates (writes (env_of s p bits temps turn) cs items spot cells) locations gates (Shows v where_cell put_written found)

-- the spot behind the cells
abbrev pub spot_behind_cells : List ItemRows → (spot : ℕ) → List Write → ℕ
spot_behind_cells items k [] = k
spot_behind_cells items k (x ∷ xs) = spot_behind_cells items (spot_behind (not (is_out_path items x.path)) k) xs
