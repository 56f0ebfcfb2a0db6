-- The numbers that the look-up by hash holds: for each key the number of the first item that has it. A key is a name
-- with a file, or without one.
use Rattle.std.specs.Prelude.{ℕ, nat_eq, Bool, ◌&&◌, Option, is_some, List, [], ◌∷◌, ◌++◌, if◌then◌else◌}
use Rattle.std.specs.Map.{lookup}
use Rattle.std.specs.Option.{option_eq}

abbrev pub Key : Type 0
Key = ℕ × Option ℕ

abbrev pub same_key : Key → Key → Bool
same_key x y = nat_eq x.0 y.0 && option_eq nat_eq x.1 y.1

abbrev pub Table : Type 0
Table = List (Key × ℕ)

abbrev pub place_of : Key → Table → Option ℕ
place_of k es = lookup (same_key k) es

-- the table with that number for a key that has none
abbrev pub noted : Key → ℕ → Table → Table
noted k n es = if is_some (place_of k es) then es else es ++ (k, n) ∷ []
