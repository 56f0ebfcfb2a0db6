-- What the parts of the circuits promise to the calls that are built of them.
use Rattle.std.specs.Prelude.{◌≡◌, ℕ, ◌+◌, ◌-◌, ◌*◌, ◌/◌, ◌%◌, ◌^◌, ◌<◌, ◌≤◌, Bool, ◌&&◌, ◌||◌, if◌then◌else◌, List, [], ◌∷◌, length, nat_le, bit_and, bit_or, bit_xor}
use Rattle.bit_net.specs.declared.nodes.Gate.{Gate}
use Rattle.bit_net.specs.declared.nodes.Node.{Node}
use Rattle.bit_net.specs.Value.{xor}
use Rattle.bit_net.specs.Runs.{Runs}
use Rattle.bit_words.specs.declared.bits.Bitwise.{Bitwise}
use Rattle.bit_words.specs.declared.bits.Bitwise.TheVariants.{And, Or, Xor}
use Rattle.bit_words.specs.declared.shifting.Direction.{Direction}
use Rattle.bit_words.specs.declared.shifting.Direction.TheVariants.{Up, Down}
use Rattle.bit_words.specs.Number.{bit, number, top, quotient, remainder}

-- a bitwise operator on bits, and on numbers
abbrev pub bit_of : Bitwise → Bool → Bool → Bool
bit_of And a b = a && b
bit_of Or a b = a || b
bit_of Xor a b = xor a b

abbrev pub number_of : Bitwise → ℕ → ℕ → ℕ
number_of And a b = bit_and a b
number_of Or a b = bit_or a b
number_of Xor a b = bit_xor a b

-- the sum of three bits as a bit and a carry
pub record IsBitSum (ns : List Node) (sum carry a b c : ℕ) : Type 0 where
  pub sum_below : sum < length ns
  pub carry_below : carry < length ns
  pub value : (choice v : ℕ → Bool) → Runs ns choice v → bit (v sum) + 2 * bit (v carry) ≡ bit (v a) + bit (v b) + bit (v c)

-- the sum of two words and a bit as a word of their width and a carry
pub record IsSum (ns : List Node) (sum : List Gate) (carry : ℕ) (a b : List Gate) (first : ℕ) : Type 0 where
  pub wide : length sum ≡ length a
  pub sum_below : top sum ≤ length ns
  pub carry_below : carry < length ns
  pub value : (choice v : ℕ → Bool) → Runs ns choice v → number v sum + bit (v carry) * 2 ^ length a ≡ number v a + number v b + bit (v first)

-- the difference of two words as a word of their width and a carry, which is missing where something is borrowed
pub record IsDifference (ns : List Node) (difference : List Gate) (carry : ℕ) (a b : List Gate) : Type 0 where
  pub wide : length difference ≡ length a
  pub below : top difference ≤ length ns
  pub carry_below : carry < length ns
  pub value : (choice v : ℕ → Bool) → Runs ns choice v → number v difference + bit (v carry) * 2 ^ length a + number v b ≡ number v a + 2 ^ length a

-- the number that is left where a minus sign is taken away, or put before it, modulo p
abbrev pub magnitude : (minus : Bool) (p n : ℕ) → ℕ
magnitude minus p n = if minus then (p - n) % p else n

-- one step of a division: whether the divisor is taken away from what is left with one bit more, and what is left then
pub record IsDivideStep (ns : List Node) (goes : ℕ) (left rest : List Gate) (next : ℕ) (divisor : List Gate) (divides : ℕ) : Type 0 where
  pub wide : length left ≡ length rest
  pub goes_below : goes < length ns
  pub left_below : top left ≤ length ns
  pub goes_is : (choice v : ℕ → Bool) → Runs ns choice v → v goes ≡ (nat_le (number v divisor) (2 * number v rest + bit (v next)) && v divides)
  pub left_is : (choice v : ℕ → Bool) → Runs ns choice v
      → number v left ≡ (if v goes then 2 * number v rest + bit (v next) - number v divisor else 2 * number v rest + bit (v next)) % 2 ^ length rest

-- the quotient and the remainder of two words of one width
pub record IsDivision (ns : List Node) (result left a divisor : List Gate) : Type 0 where
  pub result_wide : length result ≡ length a
  pub left_wide : length left ≡ length a
  pub result_below : top result ≤ length ns
  pub left_below : top left ≤ length ns
  pub result_is : (choice v : ℕ → Bool) → Runs ns choice v → number v result ≡ quotient (number v a) (number v divisor)
  pub left_is : (choice v : ℕ → Bool) → Runs ns choice v → number v left ≡ remainder (number v a) (number v divisor)

-- the gate of the high bit, which is the sign bit
abbrev pub first : List Gate → ℕ
first [] = 0
first (g ∷ gs) = g.at

-- the quotient and the remainder of the magnitudes of two signed words
pub record IsDivisionOfMagnitudes (ns : List Node) (result left a b : List Gate) : Type 0 where
  pub result_wide : length result ≡ length a
  pub left_wide : length left ≡ length a
  pub result_below : top result ≤ length ns
  pub left_below : top left ≤ length ns
  pub result_is : (choice v : ℕ → Bool) → Runs ns choice v
      → number v result ≡ quotient (magnitude (v (first a)) (2 ^ length a) (number v a)) (magnitude (v (first b)) (2 ^ length a) (number v b))
  pub left_is : (choice v : ℕ → Bool) → Runs ns choice v
      → number v left ≡ remainder (magnitude (v (first a)) (2 ^ length a) (number v a)) (magnitude (v (first b)) (2 ^ length a) (number v b))

-- the bits of a number of `width` bits moved by k places, with zeros in the places that become free
abbrev pub moved : Direction → (width n k : ℕ) → ℕ
moved Up width n k = (n * 2 ^ k) % 2 ^ width
moved Down width n k = n / 2 ^ k

-- one step of a shift by a word: where `bit` holds, the word is moved by `by` places. A word is zero where `beyond` holds.
pub record IsShiftStep (ns : List Node) (new : List Gate) (new_beyond : ℕ) (direction : Direction) (word : List Gate) (beyond by bit : ℕ) : Type 0 where
  pub wide : length new ≡ length word
  pub below : top new ≤ length ns
  pub beyond_below : new_beyond < length ns
  pub value : (choice v : ℕ → Bool) → Runs ns choice v
      → (if v new_beyond then 0 else number v new) ≡ moved direction (length word) (if v beyond then 0 else number v word) (if v bit then by else 0)
