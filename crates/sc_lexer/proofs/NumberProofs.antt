-- Digits behind a number write no smaller number, so a number that is too large stays so.
use Rattle.std.proofs.Common.{◌≡◌, ℕ, ◌+◌, ◌*◌, ◌^◌, ◌<◌, ◌≤◌, List, [], ◌∷◌, length, drop, get_or, sym, ap, ◌∙◌, arith, Some, None, inl, inr}
use Rattle.std.specs.Prelude.{nat_lt}
use Rattle.std.proofs.Math.Nat.{mul-le-mul_left}
use Rattle.std.proofs.lemmas.Bool.{cond-true, cond-false, lt-ltb, le-ltb, cases_lt}
use Rattle.std.proofs.lemmas.List.{drop_more, drop_all}
use Rattle.sc_tree.specs.Numbers.{digit_value, number_from, fitting}

grows : (base n : ℕ) (ds : List ℕ) → 0 < base → n ≤ number_from base n ds
grows base n [] h = omega arith
grows base n (d ∷ ds) h =
    let more : n * 1 ≤ n * base = mul-le-mul_left n h in
    let rest = grows base (n * base + digit_value d) ds h in
    omega (arith, more, rest)

fits : (n : ℕ) → n < 2 ^ 64 → fitting n ≡ Some n
fits n h = cond-true (nat_lt n (2 ^ 64)) (Some n) None (lt-ltb n (2 ^ 64) h)

fits_not : (n : ℕ) → 2 ^ 64 ≤ n → fitting n ≡ None
fits_not n h = cond-false (nat_lt n (2 ^ 64)) (Some n) None (le-ltb n (2 ^ 64) h)

above : (m n : ℕ) → m ≤ n → fitting m ≡ None → (n < 2 ^ 64) → fitting n ≡ None
above m n le none h = absurd (let e = fits m (omega arith) in cc (e, none))

pub stays_too_large : (m n : ℕ) → m ≤ n → fitting m ≡ None → fitting n ≡ None
stays_too_large m n le none = elim (cases_lt n (2 ^ 64)) [ inl h ↦ above m n le none h | inr h ↦ fits_not n h ]

-- where one digit more is too much, the whole number is too large
pub number_stops : (base n : ℕ) (digits : List ℕ) (i : ℕ) (d : ℕ) → 0 < base → i < length digits → d ≡ get_or digits i 0
    → fitting (n * base + digit_value d) ≡ None → number_from base n (drop i digits) ≡ number_from base 0 digits → None
    ≡ fitting (number_from base 0 digits)
number_stops base n digits i d pos lt is none whole =
    let e : drop i digits ≡ d ∷ drop (i + 1) digits = drop_more digits i 0 lt ∙ ap (λ (x : ℕ). x ∷ drop (i + 1) digits) (sym is) in
    let w : number_from base (n * base + digit_value d) (drop (i + 1) digits) ≡ number_from base 0 digits =
    ap (λ (xs : List ℕ). number_from base n xs) (sym e) ∙ whole in
    let g = grows base (n * base + digit_value d) (drop (i + 1) digits) pos in
    sym (ap fitting (sym w) ∙ stays_too_large (n * base + digit_value d) (number_from base (n * base + digit_value d) (drop (i + 1) digits)) g none)

-- where no digit is left, the number so far is the whole
pub number_ends : (base n : ℕ) (digits : List ℕ) (i : ℕ) → length digits ≤ i → n < 2 ^ 64 → number_from base n (drop i digits)
    ≡ number_from base 0 digits → Some n ≡ fitting (number_from base 0 digits)
number_ends base n digits i le small whole =
    let e : number_from base n (drop i digits) ≡ n = ap (λ (xs : List ℕ). number_from base n xs) (drop_all i digits le) in
    sym (ap fitting (sym whole ∙ e) ∙ fits n small)
