-- Hexadecimal digits, and the bits that they stand for.
use Rattle.std.proofs.Common.{◌≡◌, ◌∙◌, ◌⊎◌, ℕ, zero, suc, ◌+◌, ◌-◌, ◌*◌, ◌/◌, ◌%◌, ◌<◌, ◌≤◌, Bool, true, false, List, [], ◌∷◌, ◌++◌, length, get_or, take, map, zero-add, refl, sym, subst, ap, arith, inl, inr, ⊎_elim}
use Rattle.std.specs.Prelude.{nat_le, nat_lt, nat_eq, if◌then◌else◌}
use Rattle.std.specs.List.{range_with_len}
use Rattle.std.proofs.lemmas.Bool.{cases_lt, lt-ltb, le-ltb, le-leb, lt-leb, eq-eqb, ne_eqb}
use Rattle.std.proofs.lemmas.List.{get_or_append_left, get_or-append_right, length-append, length-take-le, take_more, take_all}
use Rattle.std.proofs.lemmas.List.FromFn.{length-map-range_with_len, get_or-map-range_with_len, map-range_with_len_more, fill_by_all}
use Rattle.report_text.specs.Shown.{bit_number, four_bits, hex_digit, hex_digits}
use Rattle.choice_texts.specs.Digits.{bits_of, IsDigit, IsNoDigit, HaveBits, HaveNoBits}

-- ---- bits as numbers

abbrev value : Bool → ℕ
value b = if b then 1 else 0

small : (b : Bool) → value b ≤ 1
small true = omega arith
small false = omega arith

same_bit : (a b : Bool) → value a ≡ value b → a ≡ b
same_bit true true e = refl
same_bit true false e = absurd (omega (arith, e))
same_bit false true e = absurd (omega (arith, e))
same_bit false false e = refl

abbrev four : (a b c d : Bool) → ℕ
four a b c d = 8 * value a + 4 * value b + 2 * value c + value d

four_small : (a b c d : Bool) → four a b c d < 16
four_small a b c d = omega (arith, small a, small b, small c, small d)

record AreSame (a b c d e f g h : Bool) : Type 0 where
  first : a ≡ e
  second : b ≡ f
  third : c ≡ g
  fourth : d ≡ h

four_same : (a b c d e f g h : Bool) → four a b c d ≡ four e f g h → AreSame a b c d e f g h
four_same a b c d e f g h is =
    let va = small a in
    let vb = small b in
    let vc = small c in
    let vd = small d in
    let ve = small e in
    let vf = small f in
    let vg = small g in
    let vh = small h in
    record {
      first = same_bit a e (omega (arith, is, va, vb, vc, vd, ve, vf, vg, vh));
      second = same_bit b f (omega (arith, is, va, vb, vc, vd, ve, vf, vg, vh));
      third = same_bit c g (omega (arith, is, va, vb, vc, vd, ve, vf, vg, vh));
      fourth = same_bit d h (omega (arith, is, va, vb, vc, vd, ve, vf, vg, vh));
    }

-- ---- digits

low : (n : ℕ) → n < 10 → hex_digit n ≡ 48 + n
low n is = ap (λ b. if b then 48 + n else 87 + n) (lt-ltb n 10 is)

high : (n : ℕ) → 10 ≤ n → hex_digit n ≡ 87 + n
high n is = ap (λ b. if b then 48 + n else 87 + n) (le-ltb n 10 is)

same_digit : (m n : ℕ) → hex_digit m ≡ hex_digit n → m ≡ n
same_digit m n e = go (cases_lt m 10) (cases_lt n 10)
  where
    go : (m < 10) ⊎ (10 ≤ m) → (n < 10) ⊎ (10 ≤ n) → m ≡ n
    go (inl a) (inl b) = let x : 48 + m ≡ 48 + n = sym (low m a) ∙ (e ∙ low n b) in omega (arith, x)
    go (inl a) (inr b) = let x : 48 + m ≡ 87 + n = sym (low m a) ∙ (e ∙ high n b) in omega (arith, x, a, b)
    go (inr a) (inl b) = let x : 87 + m ≡ 48 + n = sym (high m a) ∙ (e ∙ low n b) in omega (arith, x, a, b)
    go (inr a) (inr b) = let x : 87 + m ≡ 87 + n = sym (high m a) ∙ (e ∙ high n b) in omega (arith, x)

-- which bytes are digits

pub is_decimal : (byte : ℕ) → 48 ≤ byte → byte ≤ 57 → IsDigit byte (byte - 48)
is_decimal byte from to = record {
  small = omega (arith, from, to);
  spelled = low (byte - 48) (omega (arith, from, to)) ∙ omega (arith, from);
}

pub is_letter : (byte : ℕ) → 97 ≤ byte → byte ≤ 102 → IsDigit byte (byte - 97 + 10)
is_letter byte from to = record {
  small = omega (arith, from, to);
  spelled = high (byte - 97 + 10) (omega (arith, from)) ∙ omega (arith, from);
}

-- a digit is one of these bytes
either : (n : ℕ) → n < 16 → ((48 ≤ hex_digit n) × (hex_digit n ≤ 57)) ⊎ ((97 ≤ hex_digit n) × (hex_digit n ≤ 102))
either n small = go (cases_lt n 10)
  where
    go : (n < 10) ⊎ (10 ≤ n) → ((48 ≤ hex_digit n) × (hex_digit n ≤ 57)) ⊎ ((97 ≤ hex_digit n) × (hex_digit n ≤ 102))
    go (inl a) = let e = low n a in inl (omega (arith, e), omega (arith, e, a))
    go (inr a) = let e = high n a in inr (omega (arith, e, a), omega (arith, e, small))

pub is_below : (byte : ℕ) → byte < 48 → IsNoDigit byte
is_below byte to n small e = go (either n small)
  where
    go : ((48 ≤ hex_digit n) × (hex_digit n ≤ 57)) ⊎ ((97 ≤ hex_digit n) × (hex_digit n ≤ 102)) → ⊥
    go (inl a) = let l = a.0 in omega (arith, e, l, to)
    go (inr a) = let l = a.0 in omega (arith, e, l, to)

pub is_between : (byte : ℕ) → 57 < byte → byte < 97 → IsNoDigit byte
is_between byte from to n small e = go (either n small)
  where
    go : ((48 ≤ hex_digit n) × (hex_digit n ≤ 57)) ⊎ ((97 ≤ hex_digit n) × (hex_digit n ≤ 102)) → ⊥
    go (inl a) = let l = a.1 in omega (arith, e, l, from)
    go (inr a) = let l = a.0 in omega (arith, e, l, to)

pub is_above : (byte : ℕ) → 102 < byte → IsNoDigit byte
is_above byte from n small e = go (either n small)
  where
    go : ((48 ≤ hex_digit n) × (hex_digit n ≤ 57)) ⊎ ((97 ≤ hex_digit n) × (hex_digit n ≤ 102)) → ⊥
    go (inl a) = let l = a.1 in omega (arith, e, l, from)
    go (inr a) = let l = a.1 in omega (arith, e, l, from)

pub ruleset digit_cases = (is_decimal, is_letter, is_below, is_between, is_above)

-- the bits of a choice at a digit
abbrev bit : List Bool → ℕ → Bool
bit choice at = get_or choice at false

four_bits_small : (choice : List Bool) (k : ℕ) → four_bits choice k < 16
four_bits_small choice k = four_small (bit choice (4 * k)) (bit choice (4 * k + 1)) (bit choice (4 * k + 2)) (bit choice (4 * k + 3))

-- the digits of two choices are the same where their bits are
pub digits_of_same : (one other : List Bool) (count : ℕ) → ((at : ℕ) → at < 4 * count → bit one at ≡ bit other at)
    → hex_digits one count ≡ hex_digits other count
digits_of_same one other count same =
    fill_by_all (λ k. hex_digit (four_bits other k)) (hex_digits one count) count 0
    (length-map-range_with_len (λ k. hex_digit (four_bits one k)) 0 count)
    (λ k inside. get_or-map-range_with_len (λ k. hex_digit (four_bits one k)) 0 count k k 0 inside (zero-add k) ∙ ap hex_digit (at_digit k inside))
  where
    at_digit : (k : ℕ) → k < count → four_bits one k ≡ four_bits other k
    at_digit k inside =
        let a = ap value (same (4 * k) (omega (arith, inside))) in
        let b = ap value (same (4 * k + 1) (omega (arith, inside))) in
        let c = ap value (same (4 * k + 2) (omega (arith, inside))) in
        let d = ap value (same (4 * k + 3) (omega (arith, inside))) in
        omega (arith, a, b, c, d)

-- and the bits are the same where the digits are
pub bits_of_same : (one other : List Bool) (count : ℕ) → hex_digits one count ≡ hex_digits other count
    → (at : ℕ) → at < 4 * count → bit one at ≡ bit other at
bits_of_same one other count same at inside = go (at % 4) refl
  where
    k : ℕ
    k = at / 4

    here : k < count
    here = omega arith

    digit : hex_digit (four_bits one k) ≡ hex_digit (four_bits other k)
    digit =
        sym (get_or-map-range_with_len (λ j. hex_digit (four_bits one j)) 0 count k k 0 here (zero-add k))
        ∙ (ap (λ (l : List ℕ). get_or l k 0) same ∙ get_or-map-range_with_len (λ j. hex_digit (four_bits other j)) 0 count k k 0 here (zero-add k))

    all : AreSame (bit one (4 * k)) (bit one (4 * k + 1)) (bit one (4 * k + 2)) (bit one (4 * k + 3)) (bit other (4 * k)) (bit other (4 * k + 1)) (bit other (4 * k + 2)) (bit other (4 * k + 3))
    all = four_same _ _ _ _ _ _ _ _ (same_digit (four_bits one k) (four_bits other k) digit)

    P : ℕ → Type 0
    P n = bit one n ≡ bit other n

    go : (r : ℕ) → at % 4 ≡ r → P at
    go zero e = let place : 4 * k ≡ at = omega (arith, e) in subst P place all.first
    go (suc zero) e = let place : 4 * k + 1 ≡ at = omega (arith, e) in subst P place all.second
    go (suc (suc zero)) e = let place : 4 * k + 2 ≡ at = omega (arith, e) in subst P place all.third
    go (suc (suc (suc zero))) e = let place : 4 * k + 3 ≡ at = omega (arith, e) in subst P place all.fourth
    go (suc (suc (suc (suc r)))) e = absurd (omega (arith, e))

-- ---- one digit more

bits_are : (n : ℕ) → n < 16 → four (nat_le 8 n) (nat_le 4 (n % 8)) (nat_le 2 (n % 4)) (nat_eq (n % 2) 1) ≡ n
bits_are n is = omega (arith, top (cases_lt n 8), next (cases_lt (n % 8) 4), third (cases_lt (n % 4) 2), last)
  where
    top : (n < 8) ⊎ (8 ≤ n) → 8 * value (nat_le 8 n) ≡ 8 * (n / 8)
    top (inl l) = let e = ap value (lt-leb 8 n l) in omega (arith, e, l)
    top (inr l) = let e = ap value (le-leb 8 n l) in omega (arith, e, l, is)

    next : (n % 8 < 4) ⊎ (4 ≤ n % 8) → 4 * value (nat_le 4 (n % 8)) ≡ 4 * (n % 8 / 4)
    next (inl l) = let e = ap value (lt-leb 4 (n % 8) l) in omega (arith, e, l)
    next (inr l) = let e = ap value (le-leb 4 (n % 8) l) in omega (arith, e, l)

    third : (n % 4 < 2) ⊎ (2 ≤ n % 4) → 2 * value (nat_le 2 (n % 4)) ≡ 2 * (n % 4 / 2)
    third (inl l) = let e = ap value (lt-leb 2 (n % 4) l) in omega (arith, e, l)
    third (inr l) = let e = ap value (le-leb 2 (n % 4) l) in omega (arith, e, l)

    last : value (nat_eq (n % 2) 1) ≡ n % 2
    last = go (n % 2) (omega arith)
      where
        go : (r : ℕ) → r < 2 → value (nat_eq r 1) ≡ r
        go zero l = refl
        go (suc zero) l = refl
        go (suc (suc r)) l = absurd (omega (arith, l))

-- Behind the bits of so many digits those of one more: its digit stands behind theirs.
pub digits_more : (bits : List Bool) (count n : ℕ) (digits : List ℕ) (digit : ℕ) → length bits ≡ 4 * count → hex_digits bits count ≡ digits
    → n < 16 → hex_digit n ≡ digit → hex_digits (bits ++ bits_of n) (count + 1) ≡ digits ++ digit ∷ []
unfolding bits_of
digits_more bits count n digits digit long so_far is spelled =
    map-range_with_len_more (λ k. hex_digit (four_bits (bits ++ bits_of n) k)) 0 count count (zero-add count)
    ∙ (ap (λ (l : List ℕ). l ++ hex_digit (four_bits (bits ++ bits_of n) count) ∷ [])
    (digits_of_same (bits ++ bits_of n) bits count (λ at inside. get_or_append_left bits (bits_of n) false at (omega (arith, long, inside))) ∙ so_far)
    ∙ ap (λ (d : ℕ). digits ++ d ∷ []) (ap hex_digit at_end ∙ spelled))
  where
    behind : (k : ℕ) → bit (bits ++ bits_of n) (4 * count + k) ≡ bit (bits_of n) k
    behind k = get_or-append_right bits (bits_of n) (4 * count) (4 * count + k) false long (omega arith) ∙ ap (λ (i : ℕ). bit (bits_of n) i) (omega arith)

    at_end : four_bits (bits ++ bits_of n) count ≡ n
    at_end =
        let a = ap value (ap (bit (bits ++ bits_of n)) (let e : 4 * count ≡ 4 * count + 0 = omega arith in e) ∙ behind 0) in
        let b = ap value (behind 1) in
        let c = ap value (behind 2) in
        let d = ap value (behind 3) in
        let whole = bits_are n is in
        omega (arith, a, b, c, d, whole)

-- ---- from digit to digit

pub bits_none : HaveBits [] []
bits_none = record { long = refl; spelled = refl }

pub bits_more : (digits : List ℕ) (at d : ℕ) (bits after : List Bool) (n : ℕ) → at < length digits → HaveBits (take at digits) bits
    → IsDigit (get_or digits at d) n → after ≡ bits ++ bits_of n → HaveBits (take (at + 1) digits) after
unfolding bits_of
bits_more digits at d bits after n inside so_far is put =
    let before : length (take at digits) ≡ at = length-take-le at digits (omega (arith, inside)) in
    let behind : length (take (at + 1) digits) ≡ at + 1 = length-take-le (at + 1) digits (omega (arith, inside)) in
    let long : length bits ≡ 4 * at = so_far.long ∙ ap (λ (k : ℕ). 4 * k) before in
    let spelled : hex_digits bits at ≡ take at digits = ap (hex_digits bits) (sym before) ∙ so_far.spelled in
    let more : hex_digits (bits ++ bits_of n) (at + 1) ≡ take (at + 1) digits =
    digits_more bits at n (take at digits) (get_or digits at d) long spelled is.small is.spelled ∙ sym (take_more digits at d inside) in
    let longer : length (bits ++ bits_of n) ≡ length bits + 4 = length-append bits (bits_of n) in
    record {
      long = ap length put ∙ omega (arith, long, longer, behind);
      spelled = ap (λ (l : List Bool). hex_digits l (length (take (at + 1) digits))) put ∙ (ap (hex_digits (bits ++ bits_of n)) behind ∙ more);
    }

pub bits_all : (digits : List ℕ) (at : ℕ) (bits : List Bool) → length digits ≤ at → HaveBits (take at digits) bits → HaveBits digits bits
bits_all digits at bits past so_far = subst (λ (l : List ℕ). HaveBits l bits) (take_all at digits past) so_far

-- where a byte is no digit, no bits are spelled so
pub no_bits : (digits : List ℕ) (at d : ℕ) → at < length digits → IsNoDigit (get_or digits at d) → HaveNoBits digits
no_bits digits at d inside other bits same =
    other (four_bits bits at) (four_bits_small bits at)
    (sym (get_or-map-range_with_len (λ j. hex_digit (four_bits bits j)) 0 (length digits) at at d inside (zero-add at)) ∙ ap (λ (l : List ℕ). get_or l at d) same)
