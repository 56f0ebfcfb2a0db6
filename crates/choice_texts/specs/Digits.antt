-- Hexadecimal digits, and the bits that they stand for: four a digit, the first counting most.
use Rattle.std.specs.Prelude.{◌≡◌, ◌≢◌, ℕ, ◌*◌, ◌%◌, ◌<◌, nat_le, nat_eq, Bool, List, [], ◌∷◌, length}
use Rattle.report_text.specs.Shown.{hex_digit, hex_digits}

-- the four bits of a number below 16
unfoldable pub bits_of : ℕ → List Bool
bits_of n = nat_le 8 n ∷ nat_le 4 (n % 8) ∷ nat_le 2 (n % 4) ∷ nat_eq (n % 2) 1 ∷ []

-- the byte is the digit of that number
pub record IsDigit (byte n : ℕ) : Type 0 where
  pub small : n < 16
  pub spelled : hex_digit n ≡ byte

-- the byte is the digit of no number
abbrev pub IsNoDigit : (byte : ℕ) → Type 0
IsNoDigit byte = (n : ℕ) → n < 16 → hex_digit n ≢ byte

-- these are the bits of the digits
pub record HaveBits (digits : List ℕ) (bits : List Bool) : Type 0 where
  pub long : length bits ≡ 4 * length digits
  pub spelled : hex_digits bits (length digits) ≡ digits

-- the digits are those of no bits
abbrev pub HaveNoBits : (digits : List ℕ) → Type 0
HaveNoBits digits = (bits : List Bool) → hex_digits bits (length digits) ≢ digits
