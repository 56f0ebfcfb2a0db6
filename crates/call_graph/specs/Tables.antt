-- Which functions reach one another, as a table with a row for each function.
use Rattle.std.specs.Prelude.{ℕ, Bool, false, ◌&&◌, ◌||◌, List, [], length, map, slice_index_or}
use Rattle.std.specs.List.{range_with_len}
use Rattle.plan_core.specs.Graph.{functions, reaches_before}

-- reaching by walks on which all functions between stand before k
abbrev pub table_before : List (List ℕ) → ℕ → List (List Bool)
table_before rows k = map (λ f. map (reaches_before rows k f) (functions rows)) (functions rows)

abbrev pub entry : List (List Bool) → ℕ → ℕ → Bool
entry table f g = slice_index_or (slice_index_or table f []) g false

-- the same with walks that go through k too
abbrev pub next_entry : List (List Bool) → (k f g : ℕ) → Bool
next_entry table k f g = entry table f g || (entry table f k && entry table k g)
