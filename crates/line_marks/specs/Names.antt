-- The name of a marker, behind its opening quote. In it a `\` stands before a quote, before another `\`, before an `n` in
-- place of a line feed, and before three octal digits in place of the byte with that number.
use Rattle.std.specs.Prelude.{ℕ, ◌+◌, ◌-◌, ◌*◌, nat_lt, Bool, ◌==◌, ◌||◌, Option, Some, None, option_map, List, [], ◌∷◌, if◌then◌else◌}
use Rattle.std.specs.List.{list_all}
use Rattle.std.specs.Int.{is_in_range}
use Rattle.line_marks.specs.declared.names.Within.{Within}
use Rattle.line_marks.specs.declared.names.Within.TheVariants as within
use Rattle.line_marks.specs.declared.names.Spelled.{Spelled}
use Rattle.line_marks.specs.declared.names.Spelled.TheVariants as spelled

-- space, tab, vertical tab, form feed and carriage return, or a digit from 1 to 4
abbrev pub is_flag_byte : ℕ → Bool
is_flag_byte c = ((c == 32) || (c == 9)) || (is_in_range 11 13 c || is_in_range 49 52 c)

abbrev pub is_octal : ℕ → Bool
is_octal c = is_in_range 48 55 c

-- a number that fits a byte
abbrev pub fitting : ℕ → Spelled
fitting n = if nat_lt n 256 then spelled.Byte n else spelled.Malformed

-- what a byte spells, behind what stands open before it
unfoldable pub spells : Within → ℕ → Spelled
spells within.Plain c = if c == 34 then spelled.Closed else if c == 92 then spelled.Open within.Escape else spelled.Byte c
spells within.Escape c =
    if (c == 34) || (c == 92) then spelled.Byte c
    else if c == 110 then spelled.Byte 10
    else if is_octal c then spelled.Open (within.One (c - 48)) else spelled.Malformed
spells (within.One n) c = if is_octal c then spelled.Open (within.Two (8 * n + (c - 48))) else spelled.Malformed
spells (within.Two n) c = if is_octal c then fitting (8 * n + (c - 48)) else spelled.Malformed

-- with what the bytes behind it spell
abbrev pub name_with : Spelled → (rest : List ℕ) → (Within → Option (List ℕ)) → Option (List ℕ)
name_with (spelled.Open w) rest more = more w
name_with (spelled.Byte b) rest more = option_map (λ name. b ∷ name) (more within.Plain)
name_with spelled.Closed rest more = if list_all is_flag_byte rest then Some [] else None
name_with spelled.Malformed rest more = None

-- the name up to its closing quote, if only flags stand behind that
unfoldable pub name_from : Within → List ℕ → Option (List ℕ)
name_from w [] = None
name_from w (c ∷ cs) = name_with (spells w c) cs (λ next. name_from next cs)
