-- Locations that the caller knows.
use Rattle.std.specs.Prelude.{ℕ, Bool, ◌&&◌, List, filter, length}
use Rattle.std.specs.List.{range_with_len}
use Rattle.sc_world.specs.Layout.{Layout, Location, location, is_outer, is_cell}
use Rattle.fn_rows.specs.declared.locations.Which.{Which}
use Rattle.fn_rows.specs.declared.locations.Which.TheVariants as which

abbrev pub is_meant : Which → Location → Bool
is_meant which.Outer l = is_outer l
is_meant which.OuterCells l = is_outer l && is_cell l

-- the numbers of the locations that are meant
abbrev pub meant : Which → Layout → List ℕ
meant w p = filter (λ at. is_meant w (location p at)) (range_with_len 0 (length p.locations))
