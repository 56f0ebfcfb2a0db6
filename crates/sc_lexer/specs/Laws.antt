-- Which texts a table has.
use Rattle.std.specs.Prelude.{ℕ, Bool, List, bytes_eq}
use Rattle.std.specs.List.{list_any}

-- whether a row of the table has this spelling
abbrev pub is_spelling : {A : Type 0} → List (List ℕ × A) → List ℕ → Bool
is_spelling rows text = list_any (λ row. bytes_eq row.0 text) rows
