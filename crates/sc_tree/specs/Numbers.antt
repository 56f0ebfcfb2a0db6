-- Integer constants (C11 6.4.4.1): their digits, their suffix and their value.
use Rattle.std.specs.Prelude.{ℕ, Bool, true, false, ◌+◌, ◌-◌, ◌*◌, ◌^◌, nat_lt, nat_le, ◌==◌, List, [], ◌∷◌, take, drop, Option, Some, None, codes, option_map, unwrap_or, is_some, if◌then◌else◌, ◌||◌}
use Rattle.std.specs.List.{prefix_len}
use Rattle.std.specs.Char.{is_ascii_digit, is_ascii_hexdigit}
use Rattle.sc_tree.specs.declared.token.IntToken.{IntToken}
use Rattle.sc_tree.specs.declared.token.Kind.{Kind}
use Rattle.sc_tree.specs.declared.token.Kind.TheVariants as kind
use Rattle.sc_tree.specs.declared.piece.Suffix.{Suffix}
use Rattle.sc_tree.specs.Bytes.{is_octal_digit}
use Rattle.sc_tree.specs.Tables.{Table, begins, named, ◌>>=◌}

-- the value of a digit, up to those of hexadecimal numbers
unfoldable pub digit_value : ℕ → ℕ
digit_value c = if nat_le c 57 then c - 48 else if nat_le c 70 then c - 55 else c - 87

-- the number that digits write behind a number
abbrev pub number_from : ℕ → ℕ → List ℕ → ℕ
number_from base n [] = n
number_from base n (c ∷ cs) = number_from base (n * base + digit_value c) cs

-- a number of at most 64 bits
abbrev pub fitting : ℕ → Option ℕ
fitting n = if nat_lt n (2 ^ 64) then Some n else None

-- a suffix with `u` or not, and as many `l`
abbrev pub suffix : Bool → ℕ → Suffix
suffix unsigned longs = record { unsigned = unsigned; longs = longs }

-- the suffixes: `u`, `l` and `ll` in either case and order, where both letters of `ll` have one case
abbrev pub suffixes : Table Suffix
suffixes =
    (codes "", suffix false 0)
    ∷ (codes "u", suffix true 0) ∷ (codes "U", suffix true 0)
    ∷ (codes "l", suffix false 1) ∷ (codes "L", suffix false 1)
    ∷ (codes "ll", suffix false 2) ∷ (codes "LL", suffix false 2)
    ∷ (codes "ul", suffix true 1) ∷ (codes "uL", suffix true 1) ∷ (codes "Ul", suffix true 1) ∷ (codes "UL", suffix true 1)
    ∷ (codes "lu", suffix true 1) ∷ (codes "lU", suffix true 1) ∷ (codes "Lu", suffix true 1) ∷ (codes "LU", suffix true 1)
    ∷ (codes "ull", suffix true 2) ∷ (codes "uLL", suffix true 2) ∷ (codes "Ull", suffix true 2) ∷ (codes "ULL", suffix true 2)
    ∷ (codes "llu", suffix true 2) ∷ (codes "llU", suffix true 2) ∷ (codes "LLu", suffix true 2) ∷ (codes "LLU", suffix true 2)
    ∷ []

unfoldable pub suffix_of : List ℕ → Option Suffix
suffix_of text = named suffixes text

-- The integer constant of a number with its suffix. A number of more than 64 bits has no value.
abbrev pub int_token : Option ℕ → Bool → Suffix → IntToken
int_token n decimal s = record { value = unwrap_or n 0; fits = is_some n; decimal = decimal; unsigned = s.unsigned; longs = s.longs }

-- The integer constant of a text that begins with so many digits, one or more, and goes on with a suffix.
unfoldable pub integer : Bool → ℕ → ℕ → List ℕ → Option IntToken
integer decimal base count text =
    if count == 0 then None
    else suffix_of (drop count text) >>= λ s. Some (int_token (fitting (number_from base 0 (take count text))) decimal s)

-- hexadecimal behind `0x`, octal from a `0` on, else decimal
unfoldable pub integer_of : List ℕ → Option IntToken
integer_of text =
    if begins (codes "0x") text || begins (codes "0X") text then integer false 16 (prefix_len is_ascii_hexdigit (drop 2 text)) (drop 2 text)
    else if begins (codes "0") text then integer false 8 (prefix_len is_octal_digit text) text
    else integer true 10 (prefix_len is_ascii_digit text) text

-- what a number token is: an integer constant, or odd
unfoldable pub number_kind : List ℕ → Kind
number_kind text = unwrap_or (option_map kind.Int (integer_of text)) kind.Odd
