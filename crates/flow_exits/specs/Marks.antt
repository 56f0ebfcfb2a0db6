-- Marks on temps.
use Rattle.std.specs.Prelude.{ℕ, Bool, false, List, slice_index_or}

-- the temp with that number is marked
abbrev pub marked : List Bool → ℕ → Bool
marked marks m = slice_index_or marks m false
