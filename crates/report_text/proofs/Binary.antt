-- The digits of a number of at least one digit.
use Rattle.std.proofs.Common.{◌≡◌, ℕ, zero, suc, ◌+◌, ◌-◌, ◌/◌, ◌%◌, ◌<◌, [], ◌∷◌, ◌++◌, ap, arith}
use Rattle.report_text.specs.Rows.{binary}

pub binary_step : (digits n : ℕ) → 0 < digits → binary digits n ≡ binary (digits - 1) (n / 2) ++ (48 + n % 2) ∷ []
unfolding binary
binary_step zero n some = absurd (omega (arith, some))
binary_step (suc k) n some =
    let here : k ≡ suc k - 1 = omega arith in ap (λ d. binary d (n / 2) ++ (48 + n % 2) ∷ []) here
