-- The classes of bytes that tokens are made of (C11 5.2.1, 6.4).
use Rattle.std.specs.Prelude.{ℕ, Bool, not, ◌==◌, ◌||◌}
use Rattle.std.specs.Char.{is_ascii_alphabetic, is_ascii_alphanumeric}
use Rattle.std.specs.Int.{is_in_range}

-- horizontal tab, line feed, vertical tab, form feed, carriage return and space
unfoldable pub is_space : ℕ → Bool
is_space c = is_in_range 9 13 c || (c == 32)

-- what may stand in a line before its `#`: space and tab
unfoldable pub is_blank : ℕ → Bool
is_blank c = (c == 32) || (c == 9)

-- the byte that ends a line
abbrev pub is_feed : ℕ → Bool
is_feed c = c == 10

abbrev pub is_in_line : ℕ → Bool
is_in_line c = not (c == 10)

-- what a word begins with, and what it goes on with (C11 6.4.2.1, and `$`)
unfoldable pub is_letter : ℕ → Bool
is_letter c = is_ascii_alphabetic c || ((c == 95) || (c == 36))

unfoldable pub is_word_byte : ℕ → Bool
is_word_byte c = is_ascii_alphanumeric c || ((c == 95) || (c == 36))

-- what a number goes on with, whatever stands before (C11 6.4.8)
unfoldable pub is_number_byte : ℕ → Bool
is_number_byte c = is_ascii_alphanumeric c || ((c == 95) || (c == 46))

-- the letters behind which a number has a sign
unfoldable pub is_exponent : ℕ → Bool
is_exponent c = ((c == 101) || (c == 69)) || ((c == 112) || (c == 80))

unfoldable pub is_sign : ℕ → Bool
is_sign c = (c == 43) || (c == 45)

unfoldable pub is_octal_digit : ℕ → Bool
is_octal_digit c = is_in_range 48 55 c
