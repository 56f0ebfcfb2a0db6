-- Where comments stand: which line of a text begins inside of a comment (C11 6.4.9). A line whose first byte other than
-- space and tab is `#` is passed over whole, as by the cut into tokens; what it opens ends with it. Literals end with
-- their line (C11 6.4.4.4, 6.4.5).
use Rattle.std.specs.Prelude.{ℕ, Bool, true, false, ◌==◌, ◌||◌, List, [], ◌∷◌, drop, fold, if◌then◌else◌}
use Rattle.std.specs.List.{prefix_len}
use Rattle.line_marks.specs.declared.comments.Inside.{Inside}
use Rattle.line_marks.specs.declared.comments.Inside.TheVariants as inside

abbrev pub is_blank : ℕ → Bool
is_blank c = (c == 32) || (c == 9)

-- what a byte of code opens: a `/` may, and a quote opens a literal
abbrev pub opened : ℕ → Inside
opened c = if c == 47 then inside.Slash else if (c == 34) || (c == 39) then inside.Literal c else inside.Code

-- behind one byte more of a line
unfoldable pub stepped : Inside → ℕ → Inside
stepped inside.Code c = opened c
stepped inside.Slash c = if c == 42 then inside.Comment else if c == 47 then inside.Rest else opened c
stepped (inside.Literal q) c = if c == q then inside.Code else if c == 92 then inside.Escape q else inside.Literal q
stepped (inside.Escape q) c = inside.Literal q
stepped inside.Rest c = inside.Rest
stepped inside.Comment c = if c == 42 then inside.Star else inside.Comment
stepped inside.Star c = if c == 47 then inside.Code else if c == 42 then inside.Star else inside.Comment

-- a comment goes on behind the line
abbrev pub is_open : Inside → Bool
is_open inside.Comment = true
is_open inside.Star = true
is_open _ = false

abbrev pub is_open_behind : Inside → List ℕ → Bool
is_open_behind at line = is_open (fold stepped at line)

abbrev pub begins_with_hash : List ℕ → Bool
begins_with_hash [] = false
begins_with_hash (c ∷ cs) = c == 35

-- only spaces and tabs stand before its first `#`
abbrev pub is_hash_line : List ℕ → Bool
is_hash_line line = begins_with_hash (drop (prefix_len is_blank line) line)

-- whether the next line begins inside of a comment, if this one does or does not
unfoldable pub comment_behind : (within : Bool) → List ℕ → Bool
comment_behind true line = is_open_behind inside.Comment line
comment_behind false line = if is_hash_line line then false else is_open_behind inside.Code line
