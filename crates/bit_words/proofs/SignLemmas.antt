-- Signed numbers by their sign bit: what the circuits compute on magnitudes is what the definitions say of signed numbers.
use Rattle.std.proofs.Common.{◌≡◌, ℕ, zero, suc, ◌+◌, ◌-◌, ◌*◌, ◌/◌, ◌%◌, ◌^◌, ◌<◌, ◌≤◌, Bool, true, false, if◌then◌else◌, nat_lt, List, [], ◌∷◌, length, drop, get_or, refl, sym, ◌∙◌, ap, subst, arith, ◌⊎◌, inl, inr}
use Rattle.std.specs.Prelude.{pos, negsuc, neg_ℤ, int_div, int_rem, int_lt}
use Rattle.std.proofs.Math.Nat.{pow-suc, pow-le-pow_right, mod-eq_of_lt, mod_self, zero-mod, div-le_self, mod-le, mod-lt, div-add-mod', add-mul}
use Rattle.std.proofs.lemmas.Nat.{pow_pos, pow-add, mod-mul-add, div_below}
use Rattle.std.proofs.lemmas.Int.{ints}
use Rattle.std.proofs.lemmas.Bool.{cases_lt, cases_eq, lt-ltb, le-ltb, eq-eqb, ne_eqb}
use Rattle.bit_net.specs.declared.nodes.Gate.{Gate}
use Rattle.bit_net.specs.Value.{xor}
use Rattle.bit_words.specs.Number.{bit, number, signed, wrapped, quotient, remainder, signed_quotient, signed_remainder, moved_down}
use Rattle.bit_words.specs.Parts.{magnitude}
use Rattle.bit_words.proofs.NumberLemmas.{number-cons, number-below}

-- s is the sign bit of the number n of w bits
pub record SignOf (w : ℕ) (s : Bool) (n : ℕ) : Type 0 where
  pub some : 0 < w
  pub below : n < 2 ^ w
  pub minus : s ≡ true → 2 ^ (w - 1) ≤ n
  pub plus : s ≡ false → n < 2 ^ (w - 1)

half : (w : ℕ) → 0 < w → 2 ^ (w - 1) * 2 ≡ 2 ^ w
half w h = sym (pow-suc 2 (w - 1)) ∙ ap (λ k. 2 ^ k) (let whole : suc (w - 1) ≡ w = omega arith in whole)

pub head_and_tail : (v : ℕ → Bool) (a : List Gate) (d : Gate) → 0 < length a → (number v a ≡ bit (v (get_or a 0 d).at) * 2 ^ (length a - 1) + number v (drop 1 a)) × (number v (drop 1 a) < 2 ^ (length a - 1))
head_and_tail v [] d h = absurd (omega arith)
head_and_tail v (g ∷ gs) d h =
    let wide : length gs ≡ suc (length gs) - 1 = omega arith in
    (number-cons v g gs ∙ ap (λ k. bit (v g.at) * 2 ^ k + number v gs) wide, subst (λ (k : ℕ). number v gs < 2 ^ k) wide (number-below v gs))

pub sign_of_word : (v : ℕ → Bool) (a : List Gate) (d : Gate) → 0 < length a → SignOf (length a) (v (get_or a 0 d).at) (number v a)
sign_of_word v a d h =
    let parts = head_and_tail v a d h in
    record {
      some = h;
      below = number-below v a;
      minus = λ on. (let one : bit (v (get_or a 0 d).at) ≡ 1 = ap bit on in let whole = ap (λ b. b * 2 ^ (length a - 1) + number v (drop 1 a)) one in omega (arith, parts.0, whole));
      plus = λ off. (let none : bit (v (get_or a 0 d).at) ≡ 0 = ap bit off in let whole = ap (λ b. b * 2 ^ (length a - 1) + number v (drop 1 a)) none in omega (arith, parts.0, parts.1, whole));
    }

-- the signed number by its sign
signed_minus : (w n : ℕ) → SignOf w true n → signed w n ≡ negsuc (2 ^ w - 1 - n)
unfolding signed
signed_minus w n s =
    let low : n < 2 ^ w = s.below in
    rw (le-ltb n (2 ^ (w - 1)) (s.minus refl)) (omega (arith, ints))

signed_plus : (w n : ℕ) → SignOf w false n → signed w n ≡ pos n
unfolding signed
signed_plus w n s = rw (lt-ltb n (2 ^ (w - 1)) (s.plus refl)) refl

wrapped_pos : (w n : ℕ) → n < 2 ^ w → wrapped w (pos n) ≡ n
wrapped_pos w n h = mod-eq_of_lt h

wrapped_neg : (w n : ℕ) → n ≤ 2 ^ w → wrapped w (neg_ℤ (pos n)) ≡ (2 ^ w - n) % 2 ^ w
wrapped_neg w zero h = zero-mod (2 ^ w) ∙ sym (ap (λ k. k % 2 ^ w) (let whole : 2 ^ w - 0 ≡ 2 ^ w = omega arith in whole) ∙ mod_self (2 ^ w))
wrapped_neg w (suc n) h =
    let low : n < 2 ^ w = omega arith in
    let small : 2 ^ w - suc n < 2 ^ w = omega arith in
    let same : 2 ^ w - 1 - n ≡ 2 ^ w - suc n = omega arith in
    ap (λ k. 2 ^ w - 1 - k) (mod-eq_of_lt low) ∙ same ∙ sym (mod-eq_of_lt small)

-- the magnitude of a number below zero
magnitude_minus : (w n : ℕ) → SignOf w true n → magnitude true (2 ^ w) n ≡ suc (2 ^ w - 1 - n)
magnitude_minus w n s =
    let some = pow_pos (w - 1) in
    let low : 2 ^ w - n < 2 ^ w = omega (arith, s.minus refl, some, s.below) in
    let same : 2 ^ w - n ≡ suc (2 ^ w - 1 - n) = omega (arith, s.below) in
    mod-eq_of_lt low ∙ same

magnitude_below : (s : Bool) (w n : ℕ) → SignOf w s n → magnitude s (2 ^ w) n < 2 ^ w
magnitude_below true w n s = mod-lt (2 ^ w - n) (pow_pos w)
magnitude_below false w n s = s.below

magnitude_some : (s : Bool) (w n : ℕ) → SignOf w s n → 0 < n → 0 < magnitude s (2 ^ w) n
magnitude_some true w n s h = rw (magnitude_minus w n s) (omega arith)
magnitude_some false w n s h = h

div_small : (a b p : ℕ) → a < p → a / b < p
div_small a b p h = omega (arith, div-le_self a b)

mod_small : (a b p : ℕ) → a < p → a % b < p
mod_small a b p h = omega (arith, mod-le a b)

-- the quotient of two signed numbers, from that of their magnitudes
divided : (sa sb : Bool) (w a b : ℕ) → SignOf w sa a → SignOf w sb b
    → wrapped w (int_div (signed w a) (signed w b)) ≡ magnitude (xor sa sb) (2 ^ w) (magnitude sa (2 ^ w) a / magnitude sb (2 ^ w) b)
divided false false w a b s t = rw (signed_plus w a s, signed_plus w b t) (wrapped_pos w (a / b) (div_small a b (2 ^ w) s.below))
divided false true w a b s t =
    let small = div_small a (suc (2 ^ w - 1 - b)) (2 ^ w) s.below in
    rw (signed_plus w a s, signed_minus w b t, magnitude_minus w b t) (wrapped_neg w (a / suc (2 ^ w - 1 - b)) (omega arith))
divided true false w a b s t =
    let small = div_small (suc (2 ^ w - 1 - a)) b (2 ^ w) (subst (λ (k : ℕ). k < 2 ^ w) (magnitude_minus w a s) (magnitude_below true w a s)) in
    rw (signed_minus w a s, signed_plus w b t, magnitude_minus w a s) (wrapped_neg w (suc (2 ^ w - 1 - a) / b) (omega arith))
divided true true w a b s t =
    let small = div_small (suc (2 ^ w - 1 - a)) (suc (2 ^ w - 1 - b)) (2 ^ w) (subst (λ (k : ℕ). k < 2 ^ w) (magnitude_minus w a s) (magnitude_below true w a s)) in
    rw (signed_minus w a s, signed_minus w b t, magnitude_minus w a s, magnitude_minus w b t) (wrapped_pos w (suc (2 ^ w - 1 - a) / suc (2 ^ w - 1 - b)) small)

left_over : (sa sb : Bool) (w a b : ℕ) → SignOf w sa a → SignOf w sb b
    → wrapped w (int_rem (signed w a) (signed w b)) ≡ magnitude sa (2 ^ w) (magnitude sa (2 ^ w) a % magnitude sb (2 ^ w) b)
left_over false false w a b s t = rw (signed_plus w a s, signed_plus w b t) (wrapped_pos w (a % b) (mod_small a b (2 ^ w) s.below))
left_over false true w a b s t =
    rw (signed_plus w a s, signed_minus w b t, magnitude_minus w b t) (wrapped_pos w (a % suc (2 ^ w - 1 - b)) (mod_small a (suc (2 ^ w - 1 - b)) (2 ^ w) s.below))
left_over true false w a b s t =
    let small = mod_small (suc (2 ^ w - 1 - a)) b (2 ^ w) (subst (λ (k : ℕ). k < 2 ^ w) (magnitude_minus w a s) (magnitude_below true w a s)) in
    rw (signed_minus w a s, signed_plus w b t, magnitude_minus w a s) (wrapped_neg w (suc (2 ^ w - 1 - a) % b) (omega arith))
left_over true true w a b s t =
    let small = mod_small (suc (2 ^ w - 1 - a)) (suc (2 ^ w - 1 - b)) (2 ^ w) (subst (λ (k : ℕ). k < 2 ^ w) (magnitude_minus w a s) (magnitude_below true w a s)) in
    rw (signed_minus w a s, signed_minus w b t, magnitude_minus w a s, magnitude_minus w b t) (wrapped_neg w (suc (2 ^ w - 1 - a) % suc (2 ^ w - 1 - b)) (omega arith))

-- zero is no number below zero
zero_plus : (s : Bool) (w n : ℕ) → SignOf w s n → n ≡ 0 → s ≡ false
zero_plus false w n s e = refl
zero_plus true w n s e = absurd (omega (arith, s.minus refl, pow_pos (w - 1)))

magnitude_zero : (s : Bool) (w n : ℕ) → SignOf w s n → n ≡ 0 → magnitude s (2 ^ w) n ≡ 0
magnitude_zero s w n t e = rw (zero_plus s w n t e) e

magnitude_of_zero : (s : Bool) (w n : ℕ) → n ≡ 0 → magnitude s (2 ^ w) n ≡ 0
magnitude_of_zero true w n e = ap (λ k. k % 2 ^ w) (let whole : 2 ^ w - n ≡ 2 ^ w = omega arith in whole) ∙ mod_self (2 ^ w)
magnitude_of_zero false w n e = e

magnitude_twice : (s : Bool) (w n : ℕ) → SignOf w s n → magnitude s (2 ^ w) (magnitude s (2 ^ w) n) ≡ n
magnitude_twice true w n s =
    let back : 2 ^ w - suc (2 ^ w - 1 - n) ≡ n = omega (arith, s.below) in
    ap (λ k. (2 ^ w - k) % 2 ^ w) (magnitude_minus w n s) ∙ ap (λ k. k % 2 ^ w) back ∙ mod-eq_of_lt s.below
magnitude_twice false w n s = refl

pub signed_quotient_is : (sa sb : Bool) (w a b : ℕ) → SignOf w sa a → SignOf w sb b
    → magnitude (xor sa sb) (2 ^ w) (quotient (magnitude sa (2 ^ w) a) (magnitude sb (2 ^ w) b)) ≡ signed_quotient w a b
signed_quotient_is sa sb w a b s t = by (cases_eq b 0)
  where
    by : (b ≡ 0) ⊎ (b ≡ 0 → ⊥) → magnitude (xor sa sb) (2 ^ w) (quotient (magnitude sa (2 ^ w) a) (magnitude sb (2 ^ w) b)) ≡ signed_quotient w a b
    by (inl z) = rw (eq-eqb b 0 z, eq-eqb (magnitude sb (2 ^ w) b) 0 (magnitude_zero sb w b t z)) (magnitude_of_zero (xor sa sb) w 0 refl)
    by (inr nz) =
        let some : 0 < magnitude sb (2 ^ w) b = magnitude_some sb w b t (omega arith) in
        rw (ne_eqb b 0 nz, ne_eqb (magnitude sb (2 ^ w) b) 0 (λ e. omega arith)) (sym (divided sa sb w a b s t))

pub signed_remainder_is : (sa sb : Bool) (w a b : ℕ) → SignOf w sa a → SignOf w sb b
    → magnitude sa (2 ^ w) (remainder (magnitude sa (2 ^ w) a) (magnitude sb (2 ^ w) b)) ≡ signed_remainder w a b
signed_remainder_is sa sb w a b s t = by (cases_eq b 0)
  where
    by : (b ≡ 0) ⊎ (b ≡ 0 → ⊥) → magnitude sa (2 ^ w) (remainder (magnitude sa (2 ^ w) a) (magnitude sb (2 ^ w) b)) ≡ signed_remainder w a b
    by (inl z) = rw (eq-eqb b 0 z, eq-eqb (magnitude sb (2 ^ w) b) 0 (magnitude_zero sb w b t z)) (magnitude_twice sa w a s)
    by (inr nz) =
        let some : 0 < magnitude sb (2 ^ w) b = magnitude_some sb w b t (omega arith) in
        rw (ne_eqb b 0 nz, ne_eqb (magnitude sb (2 ^ w) b) 0 (λ e. omega arith)) (sym (left_over sa sb w a b s t))

-- the order of signed numbers: the sign bits decide, the other way round, and else the bits below
less_tails : (a b h m n : ℕ) → a ≡ h + m → b ≡ h + n → nat_lt m n ≡ nat_lt a b
less_tails a b h m n e f = by (cases_lt m n)
  where
    by : (m < n) ⊎ (n ≤ m) → nat_lt m n ≡ nat_lt a b
    by (inl l) = lt-ltb m n l ∙ sym (lt-ltb a b (omega arith))
    by (inr l) = le-ltb m n l ∙ sym (le-ltb a b (omega arith))

less_down : (a b p : ℕ) → a < p → b < p → nat_lt a b ≡ nat_lt (p - 1 - b) (p - 1 - a)
less_down a b p h k = by (cases_lt a b)
  where
    by : (a < b) ⊎ (b ≤ a) → nat_lt a b ≡ nat_lt (p - 1 - b) (p - 1 - a)
    by (inl l) = lt-ltb a b l ∙ sym (lt-ltb (p - 1 - b) (p - 1 - a) (omega arith))
    by (inr l) = le-ltb a b l ∙ sym (le-ltb (p - 1 - b) (p - 1 - a) (omega arith))

pub signed_less_is : (sa sb : Bool) (w a b m n : ℕ) → SignOf w sa a → SignOf w sb b → a ≡ bit sa * 2 ^ (w - 1) + m → b ≡ bit sb * 2 ^ (w - 1) + n
    → (if xor sb sa then sa else nat_lt m n) ≡ int_lt (signed w a) (signed w b)
signed_less_is true true w a b m n s t e f =
    rw (signed_minus w a s, signed_minus w b t) (less_tails a b (1 * 2 ^ (w - 1)) m n e f ∙ less_down a b (2 ^ w) s.below t.below)
signed_less_is true false w a b m n s t e f = rw (signed_minus w a s, signed_plus w b t) refl
signed_less_is false true w a b m n s t e f = rw (signed_plus w a s, signed_minus w b t) refl
signed_less_is false false w a b m n s t e f = rw (signed_plus w a s, signed_plus w b t) (less_tails a b (0 * 2 ^ (w - 1)) m n e f)

-- a signed number moved down, by inverting what is below zero before and after
pub moved_is : (s : Bool) (w n k : ℕ) → SignOf w s n
    → (if s then 2 ^ w - 1 - (if s then 2 ^ w - 1 - n else n) / 2 ^ k else (if s then 2 ^ w - 1 - n else n) / 2 ^ k) ≡ wrapped w (moved_down (signed w n) k)
moved_is true w n k s =
    let low : (2 ^ w - 1 - n) / 2 ^ k < 2 ^ w = div_small (2 ^ w - 1 - n) (2 ^ k) (2 ^ w) (omega (arith, pow_pos w)) in
    rw (signed_minus w n s) (ap (λ m. 2 ^ w - 1 - m) (sym (mod-eq_of_lt low)))
moved_is false w n k s = rw (signed_plus w n s) (sym (mod-eq_of_lt (div_small n (2 ^ k) (2 ^ w) s.below)))

-- what is left above n in k rows of p
turned_rows : (all k p q r n : ℕ) → k * p ≡ all → q * p + r ≡ n → r < p → q < k → all - 1 - n ≡ (k - 1 - q) * p + (p - 1 - r)
turned_rows all k p q r n e f low rows =
    let back : k - 1 - q + (1 + q) ≡ k = omega arith in
    let spread : (k - 1 - q + (1 + q)) * p ≡ k * p = ap (λ i. i * p) back in
    let split : (k - 1 - q) * p + (1 + q) * p ≡ (k - 1 - q + (1 + q)) * p = sym (add-mul (k - 1 - q) (1 + q) p) in
    omega arith

-- a conversion to fewer bits takes the low ones, a conversion to more copies the sign above them
pub cut_is : (s : Bool) (w m n : ℕ) → SignOf w s n → m ≤ w → n % 2 ^ m ≡ wrapped m (signed w n)
cut_is false w m n s h = rw (signed_plus w n s) refl
cut_is true w m n s h =
    let p = 2 ^ m in
    let k = 2 ^ (w - m) in
    let some = pow_pos m in
    let whole : k * p ≡ 2 ^ w = sym (pow-add 2 (w - m) m) ∙ ap (λ i. 2 ^ i) (let back : w - m + m ≡ w = omega arith in back) in
    let parts : n / p * p + n % p ≡ n = div-add-mod' n p in
    let low : n % p < p = mod-lt n some in
    let rows : n / p < k = div_below n p k some (omega (arith, s.below)) in
    let turned : 2 ^ w - 1 - n ≡ (k - 1 - n / p) * p + (p - 1 - n % p) = turned_rows (2 ^ w) k p (n / p) (n % p) n whole parts low rows in
    let small : p - 1 - n % p < p = omega arith in
    rw (signed_minus w n s) (sym (ap (λ i. p - 1 - i % p) turned ∙ ap (λ i. p - 1 - i) (mod-mul-add (k - 1 - n / p) p (p - 1 - n % p) small) ∙ (let back : p - 1 - (p - 1 - n % p) ≡ n % p = omega arith in back)))

pub widen_is : (s : Bool) (w m n : ℕ) → SignOf w s n → w ≤ m → (if s then 2 ^ (m - w) - 1 else 0) * 2 ^ w + n ≡ wrapped m (signed w n)
widen_is false w m n s h =
    let up : 2 ^ w ≤ 2 ^ m = pow-le-pow_right (omega arith) h in
    let low : n < 2 ^ m = omega (arith, s.below) in
    rw (signed_plus w n s) ((let none : 0 * 2 ^ w + n ≡ n = omega arith in none) ∙ sym (mod-eq_of_lt low))
widen_is true w m n s h =
    let up : 2 ^ w ≤ 2 ^ m = pow-le-pow_right (omega arith) h in
    let some = pow_pos (m - w) in
    let low : 2 ^ w - 1 - n < 2 ^ m = omega (arith, s.below) in
    let whole : 2 ^ (m - w) * 2 ^ w ≡ 2 ^ m = sym (pow-add 2 (m - w) w) ∙ ap (λ i. 2 ^ i) (let back : m - w + w ≡ m = omega arith in back) in
    let copies : 2 ^ (m - w) - 1 + 1 ≡ 2 ^ (m - w) = omega arith in
    let spread : (2 ^ (m - w) - 1) * 2 ^ w + 2 ^ w ≡ 2 ^ m = omega (arith, ap (λ i. i * 2 ^ w) copies, whole) in
    rw (signed_minus w n s, mod-eq_of_lt low) (omega (arith, s.below, spread))
