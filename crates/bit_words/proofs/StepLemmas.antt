-- One bit more, in each of the circuits: facts over plain bits and numbers.
use Rattle.std.proofs.Common.{◌≡◌, ℕ, zero, suc, ◌+◌, ◌-◌, ◌*◌, ◌/◌, ◌%◌, ◌^◌, ◌<◌, ◌≤◌, Bool, true, false, not, ◌&&◌, ◌||◌, if◌then◌else◌, nat_eq, nat_lt, refl, sym, ◌∙◌, ap, subst, arith, ◌⊎◌, inl, inr}
use Rattle.std.specs.Prelude.{bit_and, bit_or, bit_xor, nat_le}
use Rattle.std.proofs.Math.Nat.{pow-suc, pow-le-pow_right, mod-eq_of_lt, add-mod, mod-mod, div-add-mod', mod-lt}
use Rattle.std.proofs.lemmas.Nat.{mod-mul-add, div-mul-add, and_block, or_block, xor_block}
use Rattle.std.proofs.lemmas.Bool.{cases_lt, cases_eq, lt-ltb, le-ltb, eq-eqb, ne_eqb, le-leb, lt-leb}
use Rattle.std.proofs.Math.Bool.{and-false}
use Rattle.bit_net.specs.Value.{xor}
use Rattle.bit_words.specs.Number.{bit, quotient, remainder}

-- a sum so far, of weight p, and one bit more
pub sum_more : (p sum low carry a b front_a front_b carry_in first : ℕ) → low + carry_in * p ≡ front_a + front_b + first → sum + 2 * carry ≡ a + b + carry_in
    → (sum * p + low) + carry * (p * 2) ≡ (a * p + front_a) + (b * p + front_b) + first
sum_more p sum low carry a b front_a front_b carry_in first so_far here = omega (arith, ap (λ n. n * p) here)

pub flip_more : (by x : Bool) (p m n : ℕ) → m < p → n ≡ (if by then p - 1 - m else m) → 2 * n + bit (xor x by) ≡ (if by then p * 2 - 1 - (2 * m + bit x) else 2 * m + bit x)
flip_more true true p m n low e = omega arith
flip_more true false p m n low e = omega arith
flip_more false true p m n low e = omega arith
flip_more false false p m n low e = omega arith

pub select_more : (c x y : Bool) (m n r : ℕ) → r ≡ (if c then m else n) → 2 * r + bit (if c then x else y) ≡ (if c then 2 * m + bit x else 2 * n + bit y)
select_more true x y m n r e = omega arith
select_more false x y m n r e = omega arith

pub equal_more : (x y : Bool) (m n : ℕ) → (nat_eq m n && not (xor x y)) ≡ nat_eq (2 * m + bit x) (2 * n + bit y)
equal_more true true m n = by (cases_eq m n)
  where
    by : (m ≡ n) ⊎ (m ≡ n → ⊥) → (nat_eq m n && true) ≡ nat_eq (2 * m + 1) (2 * n + 1)
    by (inl e) = rw (eq-eqb m n e) (sym (eq-eqb (2 * m + 1) (2 * n + 1) (omega arith)))
    by (inr e) = rw (ne_eqb m n e) (sym (ne_eqb (2 * m + 1) (2 * n + 1) (λ h. e (omega arith))))
equal_more true false m n = by (cases_eq m n)
  where
    by : (m ≡ n) ⊎ (m ≡ n → ⊥) → (nat_eq m n && false) ≡ nat_eq (2 * m + 1) (2 * n + 0)
    by (inl e) = rw (eq-eqb m n e) (sym (ne_eqb (2 * m + 1) (2 * n + 0) (λ h. omega arith)))
    by (inr e) = rw (ne_eqb m n e) (sym (ne_eqb (2 * m + 1) (2 * n + 0) (λ h. omega arith)))
equal_more false true m n = by (cases_eq m n)
  where
    by : (m ≡ n) ⊎ (m ≡ n → ⊥) → (nat_eq m n && false) ≡ nat_eq (2 * m + 0) (2 * n + 1)
    by (inl e) = rw (eq-eqb m n e) (sym (ne_eqb (2 * m + 0) (2 * n + 1) (λ h. omega arith)))
    by (inr e) = rw (ne_eqb m n e) (sym (ne_eqb (2 * m + 0) (2 * n + 1) (λ h. omega arith)))
equal_more false false m n = by (cases_eq m n)
  where
    by : (m ≡ n) ⊎ (m ≡ n → ⊥) → (nat_eq m n && true) ≡ nat_eq (2 * m + 0) (2 * n + 0)
    by (inl e) = rw (eq-eqb m n e) (sym (eq-eqb (2 * m + 0) (2 * n + 0) (omega arith)))
    by (inr e) = rw (ne_eqb m n e) (sym (ne_eqb (2 * m + 0) (2 * n + 0) (λ h. e (omega arith))))

-- one bit more of a test for zero
pub nonzero_more : (x : Bool) (m : ℕ) → (not (nat_eq m 0) || x) ≡ not (nat_eq (2 * m + bit x) 0)
nonzero_more true m = or-true (not (nat_eq m 0)) ∙ ap not (sym (ne_eqb (2 * m + 1) 0 (λ h. omega arith)))
  where
    or-true : (b : Bool) → (b || true) ≡ true
    or-true true = refl
    or-true false = refl
nonzero_more false m = by (cases_eq m 0)
  where
    by : (m ≡ 0) ⊎ (m ≡ 0 → ⊥) → (not (nat_eq m 0) || false) ≡ not (nat_eq (2 * m + 0) 0)
    by (inl e) = rw (eq-eqb m 0 e) (ap not (sym (eq-eqb (2 * m + 0) 0 (omega arith))))
    by (inr e) = rw (ne_eqb m 0 e) (ap not (sym (ne_eqb (2 * m + 0) 0 (λ h. e (omega arith)))))

below_double : (b p m : ℕ) → b < 2 → m < p → b * p + m < p * 2
below_double zero p m h l = omega arith
below_double (suc zero) p m h l = omega arith
below_double (suc (suc b)) p m h l = absurd (omega arith)

-- one bit more of the low bits of a number, p = 2 ^ i, and what is left above it
pub number_more : (p n : ℕ) → 0 < p → (n / p % 2 * p + n % p ≡ n % (p * 2)) × (n / p / 2 ≡ n / (p * 2))
number_more p n pos' =
    let whole : n ≡ (n / p / 2) * (p * 2) + (n / p % 2 * p + n % p) = omega (arith, div-add-mod' n p, ap (λ k. k * p) (div-add-mod' (n / p) 2)) in
    let low : n / p % 2 * p + n % p < p * 2 = below_double (n / p % 2) p (n % p) (mod-lt (n / p) (omega arith)) (mod-lt n pos') in (
      sym (ap (λ k. k % (p * 2)) whole ∙ mod-mul-add (n / p / 2) (p * 2) (n / p % 2 * p + n % p) low),
      sym (ap (λ k. k / (p * 2)) whole ∙ div-mul-add (n / p / 2) (p * 2) (n / p % 2 * p + n % p) low),
    )

pub odd_bit : (rest : ℕ) → bit (nat_eq (rest % 2) 1) ≡ rest % 2
odd_bit rest = by (cases_eq (rest % 2) 1) (mod-lt rest (omega arith))
  where
    by : (rest % 2 ≡ 1) ⊎ (rest % 2 ≡ 1 → ⊥) → rest % 2 < 2 → bit (nat_eq (rest % 2) 1) ≡ rest % 2
    by (inl e) low = ap bit (eq-eqb (rest % 2) 1 e) ∙ sym e
    by (inr e) low = let zero' : rest % 2 ≡ 0 = omega (arith, e) in ap bit (ne_eqb (rest % 2) 1 e) ∙ sym zero'

-- the bits above decide where they differ, else those below
pub less_more : (x y : Bool) (p m n : ℕ) → m < p → n < p → (if xor x y then y else nat_lt m n) ≡ nat_lt (bit x * p + m) (bit y * p + n)
less_more true false p m n h k = sym (le-ltb (1 * p + m) (0 * p + n) (omega arith))
less_more false true p m n h k = sym (lt-ltb (0 * p + m) (1 * p + n) (omega arith))
less_more true true p m n h k = by (cases_lt m n)
  where
    by : (m < n) ⊎ (n ≤ m) → nat_lt m n ≡ nat_lt (1 * p + m) (1 * p + n)
    by (inl e) = lt-ltb m n e ∙ sym (lt-ltb (1 * p + m) (1 * p + n) (omega arith))
    by (inr e) = le-ltb m n e ∙ sym (le-ltb (1 * p + m) (1 * p + n) (omega arith))
less_more false false p m n h k = by (cases_lt m n)
  where
    by : (m < n) ⊎ (n ≤ m) → nat_lt m n ≡ nat_lt (0 * p + m) (0 * p + n)
    by (inl e) = lt-ltb m n e ∙ sym (lt-ltb (0 * p + m) (0 * p + n) (omega arith))
    by (inr e) = le-ltb m n e ∙ sym (le-ltb (0 * p + m) (0 * p + n) (omega arith))

-- twice a remainder is the remainder of the double
pub mod-double : (n p : ℕ) → 0 < p → 2 * (n % p) ≡ (2 * n) % (p * 2)
mod-double n p h =
    let low : n % p < p = mod-lt n h in
    let whole : 2 * n ≡ (n / p) * (p * 2) + 2 * (n % p) = omega (arith, ap (λ k. 2 * k) (div-add-mod' n p)) in
    sym (ap (λ k. k % (p * 2)) whole ∙ mod-mul-add (n / p) (p * 2) (2 * (n % p)) (omega arith))

-- one bit more of the second factor, p = 2 ^ i
pub mul_more : (x : Bool) (p a t n low : ℕ) → 0 < p → n ≡ (a * t) % p → low ≡ a % (p * 2) → (2 * n + (if x then low else 0)) % (p * 2) ≡ (a * (2 * t + bit x)) % (p * 2)
mul_more true p a t n low h e f =
    let double : 2 * n ≡ (2 * (a * t)) % (p * 2) = ap (λ k. 2 * k) e ∙ mod-double (a * t) p h in
    let whole : 2 * (a * t) + a ≡ a * (2 * t + 1) = omega arith in
    rw (double, f) (sym (add-mod (2 * (a * t)) a (p * 2)) ∙ ap (λ k. k % (p * 2)) whole)
mul_more false p a t n low h e f =
    let double : 2 * n ≡ (2 * (a * t)) % (p * 2) = ap (λ k. 2 * k) e ∙ mod-double (a * t) p h in
    let none : 2 * n + 0 ≡ 2 * n = omega arith in
    let whole : 2 * (a * t) ≡ a * (2 * t + 0) = omega arith in
    ap (λ k. k % (p * 2)) (none ∙ double) ∙ mod-mod (2 * (a * t)) (p * 2) ∙ ap (λ k. k % (p * 2)) whole

-- a sum with its carry, as a remainder
pub sum_low : (p n carry m : ℕ) → n < p → n + carry * p ≡ m → n ≡ m % p
sum_low p n carry m low e =
    let turned : m ≡ carry * p + n = omega arith in
    sym (ap (λ k. k % p) turned ∙ mod-mul-add carry p n low)

-- a difference with its carry: the carry tells that nothing is borrowed
pub no_borrow : (c : Bool) (p n a b : ℕ) → n < p → a < p → b < p → n + bit c * p + b ≡ a + p → c ≡ nat_le b a
no_borrow true p n a b h k l e = sym (le-leb b a (omega arith))
no_borrow false p n a b h k l e = sym (lt-leb b a (omega arith))

pub difference_low : (c : Bool) (p n a b : ℕ) → n < p → a < p → b < p → n + bit c * p + b ≡ a + p → n ≡ (p + a - b) % p
difference_low true p n a b h k l e =
    let turned : p + a - b ≡ 1 * p + n = omega arith in sym (ap (λ k. k % p) turned ∙ mod-mul-add 1 p n h)
difference_low false p n a b h k l e =
    let turned : p + a - b ≡ n = omega arith in sym (ap (λ k. k % p) turned ∙ mod-eq_of_lt h)

-- what the difference is where nothing is borrowed
pub difference_exact : (p n a b : ℕ) → n < p → a < p → b ≤ a → n ≡ (p + a - b) % p → n ≡ a - b
difference_exact p n a b h k l e =
    let turned : p + a - b ≡ 1 * p + (a - b) = omega arith in
    let small : a - b < p = omega arith in
    e ∙ ap (λ k. k % p) turned ∙ mod-mul-add 1 p (a - b) small

-- one bit more of a division: n is the rest with one bit more, q tells whether the divisor d goes into it
pub divide_rest : (t d n r q : ℕ) → n ≡ 2 * (t % d) + r → r < 2 → 0 < d → (d ≤ n → (2 * t + r) % d ≡ n - d) × (n < d → (2 * t + r) % d ≡ n)
divide_rest t d n r q e h pos' =
    let low : t % d < d = mod-lt t pos' in
    let whole : 2 * t + r ≡ 2 * (t / d) * d + n = omega (arith, ap (λ k. 2 * k) (div-add-mod' t d)) in (
      (λ over. (let turned : 2 * t + r ≡ (2 * (t / d) + 1) * d + (n - d) = omega arith in ap (λ k. k % d) turned ∙ mod-mul-add (2 * (t / d) + 1) d (n - d) (omega arith))),
      (λ under. ap (λ k. k % d) whole ∙ mod-mul-add (2 * (t / d)) d n under),
    )

pub divide_quotient : (t d n r q : ℕ) → n ≡ 2 * (t % d) + r → r < 2 → 0 < d → (d ≤ n → (2 * t + r) / d ≡ 2 * (t / d) + 1) × (n < d → (2 * t + r) / d ≡ 2 * (t / d))
divide_quotient t d n r q e h pos' =
    let low : t % d < d = mod-lt t pos' in
    let whole : 2 * t + r ≡ 2 * (t / d) * d + n = omega (arith, ap (λ k. 2 * k) (div-add-mod' t d)) in (
      (λ over. (let turned : 2 * t + r ≡ (2 * (t / d) + 1) * d + (n - d) = omega arith in ap (λ k. k / d) turned ∙ div-mul-add (2 * (t / d) + 1) d (n - d) (omega arith))),
      (λ under. ap (λ k. k / d) whole ∙ div-mul-add (2 * (t / d)) d n under),
    )

bit-small : (b : Bool) → bit b < 2
bit-small true = omega arith
bit-small false = omega arith

pow-le : (w k : ℕ) → k ≤ w → 2 ^ k ≤ 2 ^ w
pow-le w k h = pow-le-pow_right (omega arith) h

quotient-zero : (t d : ℕ) → d ≡ 0 → quotient t d ≡ 0
quotient-zero t d e = rw (eq-eqb d 0 e) refl

quotient-pos : (t d : ℕ) → 0 < d → quotient t d ≡ t / d
quotient-pos t d h = rw (ne_eqb d 0 (λ e. omega arith)) refl

remainder-zero : (t d : ℕ) → d ≡ 0 → remainder t d ≡ t
remainder-zero t d e = rw (eq-eqb d 0 e) refl

remainder-pos : (t d : ℕ) → 0 < d → remainder t d ≡ t % d
remainder-pos t d h = rw (ne_eqb d 0 (λ e. omega arith)) refl

-- a step of the division: the divisor goes into the rest where it is at most the rest and not zero
pub divide_more : (x q : Bool) (t d w i rest new quot : ℕ) → i < w → t < 2 ^ i → d < 2 ^ w → rest ≡ remainder t d → quot ≡ quotient t d
    → q ≡ (nat_le d (2 * rest + bit x) && not (nat_eq d 0)) → new ≡ (if q then 2 * rest + bit x - d else 2 * rest + bit x) % 2 ^ w
    → (new ≡ remainder (2 * t + bit x) d) × (2 * quot + bit q ≡ quotient (2 * t + bit x) d)
divide_more x q t d w i rest new quot deep small below e f g h = by (cases_eq d 0) (cases_lt (2 * rest + bit x) d)
  where
    one_bit : bit x < 2
    one_bit = bit-small x

    by : (d ≡ 0) ⊎ (d ≡ 0 → ⊥) → (2 * rest + bit x < d) ⊎ (d ≤ 2 * rest + bit x) → (new ≡ remainder (2 * t + bit x) d) × (2 * quot + bit q ≡ quotient (2 * t + bit x) d)
    by (inl z) _ =
        let off : q ≡ false = g ∙ rw (eq-eqb d 0 z) (and-false (nat_le d (2 * rest + bit x))) in
        let same : rest ≡ t = e ∙ remainder-zero t d z in
        let fits : 2 * rest + bit x < 2 ^ w = omega (arith, one_bit, pow-suc 2 i, pow-le w (suc i) deep) in
        let now : new ≡ 2 * rest + bit x = h ∙ rw off (mod-eq_of_lt fits) in (
          now ∙ ap (λ k. 2 * k + bit x) same ∙ sym (remainder-zero (2 * t + bit x) d z),
          rw (off, f, quotient-zero t d z) (sym (quotient-zero (2 * t + bit x) d z)),
        )
    by (inr nz) (inl under) =
        let pos' : 0 < d = omega arith in
        let off : q ≡ false = g ∙ rw (lt-leb d (2 * rest + bit x) under) refl in
        let same : rest ≡ t % d = e ∙ remainder-pos t d pos' in
        let n_is : 2 * rest + bit x ≡ 2 * (t % d) + bit x = ap (λ k. 2 * k + bit x) same in
        let now : new ≡ 2 * rest + bit x = h ∙ rw off (mod-eq_of_lt (let fits : 2 * rest + bit x < 2 ^ w = omega arith in fits)) in (
          now ∙ sym ((divide_rest t d (2 * rest + bit x) (bit x) 0 n_is one_bit pos').1 under) ∙ sym (remainder-pos (2 * t + bit x) d pos'),
          rw (off, f, quotient-pos t d pos') (omega (arith, (divide_quotient t d (2 * rest + bit x) (bit x) 0 n_is one_bit pos').1 under, quotient-pos (2 * t + bit x) d pos')),
        )
    by (inr nz) (inr over) =
        let pos' : 0 < d = omega arith in
        let on : q ≡ true = g ∙ rw (le-leb d (2 * rest + bit x) over, ne_eqb d 0 nz) refl in
        let same : rest ≡ t % d = e ∙ remainder-pos t d pos' in
        let low : t % d < d = mod-lt t pos' in
        let n_is : 2 * rest + bit x ≡ 2 * (t % d) + bit x = ap (λ k. 2 * k + bit x) same in
        let fits : 2 * rest + bit x - d < 2 ^ w = omega (arith, one_bit) in
        let now : new ≡ 2 * rest + bit x - d = h ∙ rw on (mod-eq_of_lt fits) in (
          now ∙ sym ((divide_rest t d (2 * rest + bit x) (bit x) 0 n_is one_bit pos').0 over) ∙ sym (remainder-pos (2 * t + bit x) d pos'),
          rw (on, f, quotient-pos t d pos') (omega (arith, (divide_quotient t d (2 * rest + bit x) (bit x) 0 n_is one_bit pos').0 over, quotient-pos (2 * t + bit x) d pos')),
        )

-- a function of numbers that goes bit by bit
block : (f : ℕ → ℕ → ℕ) (g : Bool → Bool → Bool) → ((a b r s : ℕ) → r < 2 ^ 1 → s < 2 ^ 1 → f (a * 2 ^ 1 + r) (b * 2 ^ 1 + s) ≡ f a b * 2 ^ 1 + f r s) → ((x y : Bool) → bit (g x y) ≡ f (bit x) (bit y))
    → (x y : Bool) (m n : ℕ) → 2 * f m n + bit (g x y) ≡ f (2 * m + bit x) (2 * n + bit y)
block f g blocks bits x y m n =
    let left : m * 2 + bit x ≡ 2 * m + bit x = omega arith in
    let right : n * 2 + bit y ≡ 2 * n + bit y = omega arith in
    let whole : f (m * 2 + bit x) (n * 2 + bit y) ≡ f m n * 2 + f (bit x) (bit y) = blocks m n (bit x) (bit y) (bit-small x) (bit-small y) in
    let turned : f (2 * m + bit x) (2 * n + bit y) ≡ f m n * 2 + f (bit x) (bit y) = subst (λ (k : ℕ). f k (2 * n + bit y) ≡ f m n * 2 + f (bit x) (bit y)) left (subst (λ (k : ℕ). f (m * 2 + bit x) k ≡ f m n * 2 + f (bit x) (bit y)) right whole) in
    omega (arith, turned, bits x y)

and_bits : (x y : Bool) → bit (x && y) ≡ bit_and (bit x) (bit y)
and_bits true true = refl
and_bits true false = refl
and_bits false true = refl
and_bits false false = refl

or_bits : (x y : Bool) → bit (x || y) ≡ bit_or (bit x) (bit y)
or_bits true true = refl
or_bits true false = refl
or_bits false true = refl
or_bits false false = refl

xor_bits : (x y : Bool) → bit (xor x y) ≡ bit_xor (bit x) (bit y)
xor_bits true true = refl
xor_bits true false = refl
xor_bits false true = refl
xor_bits false false = refl

-- bits side by side
pub and_more : (x y : Bool) (m n : ℕ) → 2 * bit_and m n + bit (x && y) ≡ bit_and (2 * m + bit x) (2 * n + bit y)
and_more x y m n = block bit_and (λ p q. p && q) (and_block 1) and_bits x y m n

pub or_more : (x y : Bool) (m n : ℕ) → 2 * bit_or m n + bit (x || y) ≡ bit_or (2 * m + bit x) (2 * n + bit y)
or_more x y m n = block bit_or (λ p q. p || q) (or_block 1) or_bits x y m n

pub xor_more : (x y : Bool) (m n : ℕ) → 2 * bit_xor m n + bit (xor x y) ≡ bit_xor (2 * m + bit x) (2 * n + bit y)
xor_more x y m n = block bit_xor xor (xor_block 1) xor_bits x y m n
