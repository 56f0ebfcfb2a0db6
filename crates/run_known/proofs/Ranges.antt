-- A test of some number of a range, as a loop sees it.
use Rattle.std.proofs.Common.{◌≡◌, ℕ, suc, zero, ◌+◌, ◌-◌, ◌<◌, ◌≤◌, Bool, false, ◌||◌, ap, arith}
use Rattle.std.specs.List.{list_any, range_with_len}

pub any_first : (f : ℕ → Bool) (m : ℕ) → list_any f (range_with_len 0 (m - 0)) ≡ list_any f (range_with_len 0 m)
any_first f m = let e : m - 0 ≡ m = omega arith in ap (λ k. list_any f (range_with_len 0 k)) e

pub any_more : (f : ℕ → Bool) (n m : ℕ) → n < m → list_any f (range_with_len n (m - n)) ≡ (f n || list_any f (range_with_len (n + 1) (m - (n + 1))))
any_more f n m h = let e : m - n ≡ suc (m - (n + 1)) = omega arith in ap (λ k. list_any f (range_with_len n k)) e

pub any_last : (f : ℕ → Bool) (n m : ℕ) → m ≤ n → list_any f (range_with_len n (m - n)) ≡ false
any_last f n m h = let e : m - n ≡ zero = omega arith in ap (λ k. list_any f (range_with_len n k)) e

pub ruleset ranges = (any_first, any_more, any_last)
