-- The widths of cells, by their numbers.
use Rattle.std.specs.Prelude.{ℕ, zero, suc, nat_eq, nat_lt, Bool, Option, Some, None, List, if◌then◌else◌}
use Rattle.std.specs.List.{list_any}
use Rattle.sc_world.specs.Tree.{Ty, is_pointer, int_bits}
use Rattle.sc_world.specs.Source.{Source}
use Rattle.sc_world.specs.Layout.{Layout, location}

-- how many widths cells have
abbrev pub widths : ℕ
widths = 6

-- the widths of integers, and that of a pointer's cell, by their numbers
abbrev pub width_at : (number : ℕ) → ℕ
width_at n =
    if nat_eq n 0 then 1 else
    if nat_eq n 1 then 8 else
    if nat_eq n 2 then 16 else
    if nat_eq n 3 then 32 else
    if nat_eq n 4 then 64 else 255

-- the number of a width; for what is no width of a cell, one behind the last
abbrev pub width_number : (width : ℕ) → ℕ
width_number w =
    if nat_eq w 1 then 0 else
    if nat_eq w 8 then 1 else
    if nat_eq w 16 then 2 else
    if nat_eq w 32 then 3 else
    if nat_eq w 64 then 4 else
    if nat_eq w 255 then 5 else 6

-- the width of a cell of that type, as stores have it: 255 of a pointer, 0 where there is no cell
abbrev pub cell_width : Source → Option Ty → ℕ
cell_width s None = 0
cell_width s (Some t) = if is_pointer t then 255 else int_bits s.widths t

-- the number of the width of a location's cell
abbrev pub number_at : Source → Layout → (at : ℕ) → ℕ
number_at s p at = width_number (cell_width s (location p at).type)

-- the target where its cell has the width with that number, null where not
abbrev pub of_width : Source → Layout → (number target : ℕ) → ℕ
of_width s p n zero = 0
of_width s p n (suc at) = if nat_eq (number_at s p at) n then suc at else 0

-- whether some target is not null
abbrev pub leads_to_some : List ℕ → Bool
leads_to_some targets = list_any (λ target. nat_lt 0 target) targets
