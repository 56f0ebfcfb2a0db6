-- Where a byte stands, counted from the bytes before it.
use Rattle.std.specs.Prelude.{ℕ, Bool, ◌+◌, List, length, count_by}
use Rattle.std.specs.List.{after_last, list_all}
use Rattle.sc_base.specs.declared.pos.Pos.{Pos}
use Rattle.sc_tree.specs.Bytes.{is_feed, is_blank}

-- its line: one more than the line feeds before it
unfoldable pub line_at : List ℕ → ℕ
line_at before = count_by is_feed before + 1

-- what stands before it in its line
unfoldable pub line_so_far : List ℕ → List ℕ
line_so_far before = after_last is_feed before

-- its column: one more than the bytes before it in its line
abbrev pub column_at : List ℕ → ℕ
column_at before = length (line_so_far before) + 1

-- whether only spaces and tabs stand before it in its line
abbrev pub is_fresh_at : List ℕ → Bool
is_fresh_at before = list_all is_blank (line_so_far before)

abbrev pub pos_at : ℕ → List ℕ → Pos
pos_at file before = record { file = file; line = line_at before; col = column_at before }
