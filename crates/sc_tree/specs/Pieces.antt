-- How the bytes of a file are cut into pieces: each is the longest form that begins at its place.
--
-- A place that opens a comment, a string literal or a character constant begins that, and nothing where
-- it is not closed. At any other place the forms are white space, a line whose first byte other than space
-- and tab is `#`, a word, a number and a punctuator.
use Rattle.std.specs.Prelude.{ℕ, Bool, ◌+◌, nat_lt, ◌==◌, ◌&&◌, ◌||◌, List, [], ◌∷◌, length, take, drop, Option, Some, None, option_map, unwrap_or, if◌then◌else◌}
use Rattle.std.specs.List.{prefix_len}
use Rattle.std.specs.Char.{is_ascii_digit}
use Rattle.sc_tree.specs.declared.token.Kind.TheVariants as kind
use Rattle.sc_tree.specs.declared.piece.Form.{Form}
use Rattle.sc_tree.specs.declared.piece.Form.TheVariants as form
use Rattle.sc_tree.specs.declared.piece.Piece.{Piece}
use Rattle.sc_tree.specs.declared.piece.Opening.{Opening}
use Rattle.sc_tree.specs.Bytes.{is_space, is_in_line, is_letter, is_word_byte, is_number_byte, is_exponent, is_sign}
use Rattle.sc_tree.specs.Literals.{opening, opened}
use Rattle.sc_tree.specs.Numbers.{number_kind}
use Rattle.sc_tree.specs.Puncts.{punctuator}

-- ---- how many bytes of each form stand at the front

abbrev pub space_len : List ℕ → ℕ
space_len bytes = prefix_len is_space bytes

-- a line that begins with `#`, up to its line feed; its place is fresh if only blanks stand before it in its line
abbrev pub line_len : Bool → List ℕ → ℕ
line_len fresh [] = 0
line_len fresh (c ∷ cs) = if fresh && (c == 35) then 1 + prefix_len is_in_line cs else 0

abbrev pub word_len : List ℕ → ℕ
word_len [] = 0
word_len (c ∷ cs) = if is_letter c then 1 + prefix_len is_word_byte cs else 0

-- whether a number goes on with a byte behind another
unfoldable pub goes_on : ℕ → ℕ → Bool
goes_on last c = is_number_byte c || (is_sign c && is_exponent last)

-- how many bytes go on with a number, behind its last byte so far
abbrev pub number_tail : ℕ → List ℕ → ℕ
number_tail last [] = 0
number_tail last (c ∷ cs) = if goes_on last c then 1 + number_tail c cs else 0

abbrev pub is_digit_front : List ℕ → Bool
is_digit_front bytes = nat_lt 0 (prefix_len is_ascii_digit (take 1 bytes))

-- a digit, or a `.` and a digit, and what goes on with them (C11 6.4.8)
abbrev pub number_len : List ℕ → ℕ
number_len [] = 0
number_len (c ∷ cs) = if is_ascii_digit c || ((c == 46) && is_digit_front cs) then 1 + number_tail c cs else 0

-- ---- the longest

abbrev pub piece_of : Form → ℕ → Piece
piece_of f n = record { form = f; len = n }

-- a number of so many bytes
abbrev pub number_piece : ℕ → List ℕ → Piece
number_piece len bytes = piece_of (form.Known (number_kind (take len bytes))) len

-- the punctuator at the front, of no bytes where there is none
unfoldable pub punct_piece : List ℕ → Piece
punct_piece bytes = unwrap_or (option_map (λ row. piece_of (form.Known (kind.Punct row.1)) (length row.0)) (punctuator bytes)) (piece_of form.Blank 0)

-- the longer one of two pieces
unfoldable pub longer : Piece → Piece → Piece
longer p q = if nat_lt p.len q.len then q else p

-- the longest form at the front, of no bytes where there is none
unfoldable pub longest : Bool → List ℕ → Piece
longest fresh bytes =
    longer (piece_of form.Blank (space_len bytes))
    (longer (piece_of form.Blank (line_len fresh bytes))
    (longer (piece_of form.Word (word_len bytes))
    (longer (number_piece (number_len bytes) bytes)
    (punct_piece bytes))))

-- a form of one byte or more
unfoldable pub plain_piece : Bool → List ℕ → Option Piece
plain_piece fresh bytes = let p = longest fresh bytes in if p.len == 0 then None else Some p

-- the piece behind an opening of so many bytes, and with them
unfoldable pub closed : ℕ → Opening → List ℕ → Option Piece
closed len opens bytes = option_map (λ p. piece_of p.form (len + p.len)) (opened opens (drop len bytes))

-- The piece at the front of the bytes that are left: what is opened there, where it is closed; else the
-- longest form.
unfoldable pub piece : Bool → List ℕ → Option Piece
piece fresh bytes = unwrap_or (option_map (λ row. closed (length row.0) row.1 bytes) (opening bytes)) (plain_piece fresh bytes)
