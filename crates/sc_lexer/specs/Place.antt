-- A place as it is counted byte by byte.
use Rattle.std.specs.Prelude.{ℕ, true, ◌+◌, ◌&&◌, List, [], ◌∷◌, if◌then◌else◌}
use Rattle.sc_tree.specs.Bytes.{is_feed, is_blank}
use Rattle.sc_tree.specs.Places.{line_at, column_at, is_fresh_at}
use Rattle.sc_lexer.specs.declared.place.Place.{Place}

-- the place behind these bytes
abbrev pub place_at : List ℕ → Place
place_at before = record { line = line_at before; col = column_at before; is_fresh = is_fresh_at before }

-- the place behind one byte more
unfoldable pub stepped : Place → ℕ → Place
stepped p c =
    if is_feed c then record { line = p.line + 1; col = 1; is_fresh = true }
    else record { line = p.line; col = p.col + 1; is_fresh = p.is_fresh && is_blank c }

-- the place behind a text more
abbrev pub passed : Place → List ℕ → Place
passed p [] = p
passed p (c ∷ cs) = passed (stepped p c) cs
