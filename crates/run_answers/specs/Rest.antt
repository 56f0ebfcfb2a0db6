-- Numbers one after another, and those from a place on.
use Rattle.std.specs.Prelude.{ℕ, ◌-◌, List}
use Rattle.std.specs.List.{range_with_len}

-- the numbers from k to below n
unfoldable pub rest : (k n : ℕ) → List ℕ
rest k n = range_with_len k (n - k)
