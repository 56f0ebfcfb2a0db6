-- A run leaves as many cells as there were at entry: two for each location, its own and that of its state.
use Rattle.std.specs.Prelude.{◌*◌, ◌≤◌, List, Bool, length}
use Rattle.std.specs.Coded.{le_prop}
use Rattle.sc_world.specs.Source.{Source}
use Rattle.sc_world.specs.Layout.{Layout}
use Rattle.sc_world.specs.Exec.{run}

-- no run of the function loses a cell
unfoldable pub KeepsCells : Source → Layout → Type 0
KeepsCells s p = (choice : List Bool) → 2 * length p.locations ≤ length (run s p choice).1.places

-- it is a fact with one proof, so that a value can carry it
pub keeps_cells_prop : (s : Source) (p : Layout) → IsProp (KeepsCells s p)
unfolding KeepsCells
keeps_cells_prop s p = hlevel le_prop
