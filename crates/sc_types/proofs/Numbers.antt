-- Numbers of a fixed width.
use Rattle.std.proofs.Common.{ℕ, ◌<◌, ◌≤◌, ◌^◌, arith, bit_and}
use Rattle.std.proofs.lemmas.Nat.{and_le_l, pow_below}

-- a truth is a number of any width but 0
pub truth_fits : (n bits : ℕ) → n ≤ 1 → 1 ≤ bits → n < 2 ^ bits
truth_fits n bits small some = let p : 2 ^ 0 < 2 ^ bits = pow_below 0 bits some in omega arith

-- the common bits of two numbers are no more than the first
pub and_fits : (a b bits : ℕ) → a < 2 ^ bits → bit_and a b < 2 ^ bits
and_fits a b bits h = omega (arith, and_le_l a b)
