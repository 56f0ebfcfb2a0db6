-- A number with one more binary digit.
use Rattle.std.proofs.Common.{◌≡◌, ℕ, suc, ◌+◌, ◌-◌, ◌*◌, ◌^◌, ◌<◌, ◌≤◌, Bool, List, arith, add-one, ap, ◌∙◌}
use Rattle.sc_world.specs.World.{digit, bit_at, number_from}
use Rattle.std.proofs.Math.Nat.{pow-succ'}
use Rattle.std.proofs.Math.Pow.{pow_mono}

-- twice a number of k digits and one more is a number of k + 1 digits
pub one_more : (k n : ℕ) → n < 2 ^ k → 2 * n + 1 < 2 ^ (k + 1)
one_more k n fits =
    let e : 2 ^ (k + 1) ≡ 2 * 2 ^ k = ap (λ m. 2 ^ m) (add-one k) ∙ pow-succ' 2 k in
    omega (arith, e, fits)

-- and of 64 at most
pub appended : (k n : ℕ) → k < 64 → n < 2 ^ k → 2 * n + 1 < 2 ^ 64
appended k n low fits =
    let next : 2 * n + 1 < 2 ^ (k + 1) = one_more k n fits in
    let order : k + 1 ≤ 64 = omega arith in
    let most : 2 ^ (k + 1) ≤ 2 ^ 64 = pow_mono order in
    omega (arith, next, most)

pub ruleset digit_steps = (one_more, appended)

-- one digit more of a number that is read
pub digit_more : (width k at n : ℕ) (choice : List Bool) → k < width
    → number_from (width - k) choice (at + k) n
    ≡ number_from (width - (k + 1)) choice (at + (k + 1)) (2 * n + digit (bit_at choice (at + k)))
digit_more width k at n choice low =
    let left : width - k ≡ suc (width - (k + 1)) = omega arith in
    let next : (at + k) + 1 ≡ at + (k + 1) = omega arith in
    ap (λ m. number_from m choice (at + k) n) left
    ∙ ap (λ j. number_from (width - (k + 1)) choice j (2 * n + digit (bit_at choice (at + k)))) next
