-- Comments, string literals and character constants (C11 6.4.4.4, 6.4.5, 6.4.9): what opens them, where
-- they are closed, and what they mean. Nothing stands where one is opened and not closed.
use Rattle.std.specs.Prelude.{ℕ, zero, suc, Bool, true, false, not, ◌+◌, ◌-◌, min, nat_le, ◌==◌, ◌&&◌, List, [], ◌∷◌, length, take, drop, Option, Some, None, codes, option_map, unwrap_or, if◌then◌else◌}
use Rattle.std.specs.List.{prefix_len}
use Rattle.std.specs.Char.{is_ascii_hexdigit}
use Rattle.std.specs.Int.{cast_signed, w8}
use Rattle.sc_tree.specs.declared.token.Kind.{Kind}
use Rattle.sc_tree.specs.declared.token.Kind.TheVariants as kind
use Rattle.sc_tree.specs.declared.piece.Form.TheVariants as form
use Rattle.sc_tree.specs.declared.piece.Piece.{Piece}
use Rattle.sc_tree.specs.declared.piece.Opening.{Opening}
use Rattle.sc_tree.specs.declared.piece.Opening.TheVariants as opens
use Rattle.sc_tree.specs.Bytes.{is_in_line, is_octal_digit}
use Rattle.sc_tree.specs.Numbers.{number_from}
use Rattle.sc_tree.specs.Tables.{Table, Row, begins, named, first_fit, ◌>>=◌, ◌|?◌}

-- ---- escapes

-- the escapes of one letter with their bytes
abbrev pub simple_escapes : Table ℕ
simple_escapes =
    (codes "n", 10) ∷ (codes "t", 9) ∷ (codes "r", 13) ∷ (codes "a", 7) ∷ (codes "b", 8) ∷ (codes "f", 12) ∷ (codes "v", 11)
    ∷ (codes "e", 27) ∷ (codes "\\", 92) ∷ (codes "'", 39) ∷ (codes "\"", 34) ∷ (codes "?", 63) ∷ []

unfoldable pub simple_escape : List ℕ → Option ℕ
simple_escape text = named simple_escapes text

-- the value of an escape, if it fits a byte
abbrev pub byte_value : ℕ → Option ℕ
byte_value n = if nat_le n 255 then Some n else None

-- digits as an escape: how many bytes it has, the first ones counted too, and its value
abbrev pub digits_escape : ℕ → ℕ → List ℕ → Option (ℕ × Option ℕ)
digits_escape base before digits =
    if length digits == 0 then None else Some (before + length digits, byte_value (number_from base 0 digits))

-- `x` with hexadecimal digits, or one to three octal digits: how many bytes there are, and their value
abbrev pub number_escape : List ℕ → Option (ℕ × Option ℕ)
number_escape bytes =
    if begins (codes "x") bytes then digits_escape 16 1 (take (prefix_len is_ascii_hexdigit (drop 1 bytes)) (drop 1 bytes))
    else digits_escape 8 0 (take (min 3 (prefix_len is_octal_digit bytes)) bytes)

-- the escape behind a `\`, which is one letter or a number: how many bytes it has there, and its value
unfoldable pub escape : List ℕ → Option (ℕ × Option ℕ)
escape bytes = option_map (λ value. (1, Some value)) (simple_escape (take 1 bytes)) |? number_escape bytes

-- a byte of a literal at the front, itself or as an escape: how many bytes spell it, and its value
unfoldable pub spelled_byte : List ℕ → Option (ℕ × Option ℕ)
spelled_byte [] = None
spelled_byte (c ∷ cs) = if c == 92 then option_map (λ e. (e.0 + 1, e.1)) (escape cs) else Some (1, Some c)

-- how many bytes a text spells, in at most so many steps; none where an escape in it is none
abbrev pub spelled_bytes : ℕ → List ℕ → Option ℕ
spelled_bytes zero text = Some 0
spelled_bytes (suc n) [] = Some 0
spelled_bytes (suc n) (c ∷ cs) = spelled_byte (c ∷ cs) >>= λ b. option_map suc (spelled_bytes n (drop b.0 (c ∷ cs)))

-- ---- where a literal or a comment is closed, counted in bytes behind what opens it

-- behind the first quote that no `\` escapes, in the same line
abbrev pub quoted_len : ℕ → Bool → List ℕ → Option ℕ
quoted_len quote escaped [] = None
quoted_len quote escaped (c ∷ cs) =
    if c == 10 then None
    else if (c == quote) && not escaped then Some 1
    else option_map suc (quoted_len quote ((c == 92) && not escaped) cs)

-- behind the first `*/`
abbrev pub comment_len : List ℕ → Option ℕ
comment_len [] = None
comment_len (c ∷ cs) = if begins (codes "*/") (c ∷ cs) then Some 2 else option_map suc (comment_len cs)

-- ---- the pieces that are opened and closed

abbrev pub openings : Table Opening
openings =
    (codes "/*", opens.BlockComment) ∷ (codes "//", opens.LineComment)
    ∷ (codes "\"", opens.Str false) ∷ (codes "u8\"", opens.Str false)
    ∷ (codes "L\"", opens.Str true) ∷ (codes "u\"", opens.Str true) ∷ (codes "U\"", opens.Str true)
    ∷ (codes "'", opens.Char true)
    ∷ (codes "L'", opens.Char false) ∷ (codes "u'", opens.Char false) ∷ (codes "U'", opens.Char false)
    ∷ []

-- what is opened at the front, with the bytes that open it
unfoldable pub opening : List ℕ → Option (Row Opening)
opening bytes = first_fit openings bytes

-- a string literal of this text between its quotes
unfoldable pub string_kind : Bool → List ℕ → Option Kind
string_kind wide text = option_map (λ n. kind.Str (record { wide = wide; len = n })) (spelled_bytes (length text) text)

-- the one byte that a text spells, if it spells one
unfoldable pub only_byte : List ℕ → Option ℕ
only_byte text = spelled_byte text >>= λ b. if b.0 == length text then b.1 else None

-- a character constant of this text between its quotes: one byte as a signed char, or odd
unfoldable pub char_kind : Bool → List ℕ → Kind
char_kind plain text =
    if plain then unwrap_or (option_map (λ c. kind.Char (cast_signed w8 c)) (only_byte text)) kind.Odd else kind.Odd

-- the piece that an opening begins, and how many bytes of it stand behind the opening
unfoldable pub opened : Opening → List ℕ → Option Piece
opened opens.BlockComment bytes = option_map (λ n. record { form = form.Blank; len = n }) (comment_len bytes)
opened opens.LineComment bytes = Some (record { form = form.Blank; len = prefix_len is_in_line bytes })
opened (opens.Str wide) bytes =
    quoted_len 34 false bytes >>= λ n. option_map (λ k. record { form = form.Known k; len = n }) (string_kind wide (take (n - 1) bytes))
opened (opens.Char plain) bytes =
    option_map (λ n. record { form = form.Known (char_kind plain (take (n - 1) bytes)); len = n }) (quoted_len 39 false bytes)
