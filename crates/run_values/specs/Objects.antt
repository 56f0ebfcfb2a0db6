-- The cells of an object, as a walk over the locations meets them.
use Rattle.std.specs.Prelude.{ℕ, ◌-◌, Bool, ◌&&◌, List, length}
use Rattle.std.specs.List.{range_with_len}
use Rattle.sc_world.specs.Layout.{Layout, location, is_cell}
use Rattle.sc_world.specs.Eval.{is_within, cells_among}

-- whether location k is a cell of the object at a location
unfoldable pub is_cell_of : Layout → (at k : ℕ) → Bool
is_cell_of p at k = is_cell (location p k) && is_within 256 p at k

-- the cells of an object from location k on
unfoldable pub cells_from : Layout → (at k : ℕ) → List ℕ
cells_from p at k = cells_among p at (range_with_len k (length p.locations - k))
