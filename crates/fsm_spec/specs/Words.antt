-- The lines of a file, the words of a line, and which bytes make a word.
--
-- Lines end at line feeds; bytes behind the last line feed, where there are some, are a last line. Words
-- are separated by exactly one space. A word of the form is one to 31 letters, digits or `_`, and does not
-- begin with a digit.
use Rattle.std.specs.Prelude.{ℕ, Bool, true, not, ◌&&◌, ◌||◌, ◌==◌, nat_le, List, [], ◌∷◌, length, slice_index, Option, if◌then◌else◌, position, bytes_eq}
use Rattle.std.specs.List.{list_all, list_any, slice_split, onto_first}
use Rattle.std.specs.Char.{is_ascii_alphanumeric, is_ascii_digit}

-- the lines, without their line feeds
abbrev pub lines : List ℕ → List (List ℕ)
lines [] = []
lines (b ∷ bs) = if b == 10 then [] ∷ lines bs else onto_first b (lines bs)

abbrev pub is_space : ℕ → Bool
is_space b = b == 32

-- the parts of a line round its spaces: two spaces in a row have a part without bytes between them
abbrev pub words : List ℕ → List (List ℕ)
words line = slice_split is_space line

-- a letter, a digit or `_`
unfoldable pub is_word_byte : ℕ → Bool
is_word_byte b = is_ascii_alphanumeric b || (b == 95)

unfoldable pub is_word : List ℕ → Bool
is_word word = nat_le 1 (length word) && (nat_le (length word) 31 && (list_all is_word_byte word && not (is_ascii_digit (slice_index word 0))))

-- whether a word is one of some words
abbrev pub is_among : List ℕ → List (List ℕ) → Bool
is_among word words = list_any (λ w. bytes_eq w word) words

-- whether no two words are the same
abbrev pub are_different : List (List ℕ) → Bool
are_different [] = true
are_different (word ∷ words) = not (is_among word words) && are_different words

-- the number of the first word that is this one, counted from 0
abbrev pub number_of : List ℕ → List (List ℕ) → Option ℕ
number_of word words = position (λ w. bytes_eq w word) words
