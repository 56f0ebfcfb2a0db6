-- A number of 64 bits in a wider type has no sign.
use Rattle.std.proofs.Common.{◌≡◌, ℕ, ◌-◌, ◌<◌, ◌≤◌, ◌^◌, true, nat_lt, ap, arith}
use Rattle.std.proofs.Math.Nat.{pow-le-pow_right}
use Rattle.std.proofs.lemmas.Grind.{common_steps}
use Rattle.std.specs.Prelude.{pos, ◌-ℤ◌, if◌then◌else◌}
use Rattle.sc_typed.specs.Arith.{signed}

pub signed_wide : (bits n : ℕ) → 64 < bits → n < 18446744073709551616 → signed bits n ≡ pos n
signed_wide bits n wide low =
    let up : 64 ≤ bits - 1 = omega arith in
    let most : 2 ^ 64 ≤ 2 ^ (bits - 1) = pow-le-pow_right (omega arith) {i = 64} up in
    let below : n < 2 ^ (bits - 1) = omega (arith, most) in
    let test : nat_lt n (2 ^ (bits - 1)) ≡ true = grind (arith, common_steps, below) in
    ap (λ b. if b then pos n else pos n -ℤ pos (2 ^ bits)) test

pub ruleset sign_steps = (signed_wide)
