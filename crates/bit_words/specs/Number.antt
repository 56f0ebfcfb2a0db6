-- The numbers of words, and what each call does to them. A word of n bits spells a number below 2 ^ n, high bit first; as a signed
-- number its high bit counts negatively (C11 6.2.6.2).
use Rattle.std.specs.Prelude.{ℕ, ◌+◌, ◌-◌, ◌*◌, ◌/◌, ◌%◌, ◌^◌, max, Bool, true, false, List, [], ◌∷◌, length, ℤ, pos, negsuc, ◌-ℤ◌, nat_eq, nat_lt, int_div, int_rem, if◌then◌else◌}
use Rattle.bit_net.specs.declared.nodes.Gate.{Gate}

abbrev pub bit : Bool → ℕ
bit true = 1
bit false = 0

-- the number that the gates spell where gate g has the value v g
unfoldable pub number : (v : ℕ → Bool) → List Gate → ℕ
number v [] = 0
number v (g ∷ gs) = bit (v g.at) * 2 ^ length gs + number v gs

-- one more than the greatest gate of a word, 0 for a word of no bits
unfoldable pub top : List Gate → ℕ
top [] = 0
top (g ∷ gs) = max (g.at + 1) (top gs)

-- the signed number that a word with the number n spells
unfoldable pub signed : (width n : ℕ) → ℤ
signed width n = if nat_lt n (2 ^ (width - 1)) then pos n else pos n -ℤ pos (2 ^ width)

-- the number of the word that holds the low bits of z: z modulo 2 ^ width (C11 6.3.1.3)
abbrev pub wrapped : (width : ℕ) → ℤ → ℕ
wrapped width (pos n) = n % 2 ^ width
wrapped width (negsuc n) = 2 ^ width - 1 - n % 2 ^ width

-- a difference, modulo 2 ^ width
abbrev pub difference : (width a b : ℕ) → ℕ
difference width a b = (2 ^ width + a - b) % 2 ^ width

-- a quotient, 0 for a zero divisor, and its remainder, then a
abbrev pub quotient : (a b : ℕ) → ℕ
quotient a b = if nat_eq b 0 then 0 else a / b

abbrev pub remainder : (a b : ℕ) → ℕ
remainder a b = if nat_eq b 0 then a else a % b

-- the same of signed numbers: the quotient is rounded toward zero (C11 6.5.5), and what does not fit wraps
abbrev pub signed_quotient : (width a b : ℕ) → ℕ
signed_quotient width a b = if nat_eq b 0 then 0 else wrapped width (int_div (signed width a) (signed width b))

abbrev pub signed_remainder : (width a b : ℕ) → ℕ
signed_remainder width a b = if nat_eq b 0 then a else wrapped width (int_rem (signed width a) (signed width b))

-- z divided by a power of 2 and rounded down: the bits of z moved down, with copies of its sign above them
abbrev pub moved_down : ℤ → ℕ → ℤ
moved_down (pos n) k = pos (n / 2 ^ k)
moved_down (negsuc n) k = negsuc (n / 2 ^ k)

-- what a conversion to `width` bits makes of a number of `from` bits
abbrev pub converted : (is_signed : Bool) (from width n : ℕ) → ℕ
converted true from width n = wrapped width (signed from n)
converted false from width n = n % 2 ^ width
