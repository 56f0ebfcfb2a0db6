-- Which bytes begin a punctuator, and how long one is.
use Rattle.std.proofs.Common.{◌≡◌, ℕ, ◌<◌, ◌≤◌, Bool, true, false, List, [], ◌∷◌, length, take, refl, sym, ◌∙◌, arith, Some, None, inl, inr, subst}
use Rattle.std.specs.Prelude.{◌==◌, ◌&&◌, ◌||◌, nat_lt, nat_le}
use Rattle.std.specs.List.{list_all, list_any}
use Rattle.std.specs.Char.{is_ascii_digit, is_ascii_alphanumeric}
use Rattle.std.proofs.lemmas.Bool.{and_parts, or_parts, cond-false, cond-true, cases_Bool, leb-true, ltb-true, ne_eqb, eqb-true, or_cases}
use Rattle.std.proofs.lemmas.Bool.{agree_below_at, both_ways}
use Rattle.sc_tree.specs.declared.token.Punct.{Punct}
use Rattle.sc_tree.specs.declared.piece.Form.TheVariants as form
use Rattle.sc_tree.specs.Bytes.{is_space, is_letter, is_word_byte}
use Rattle.sc_tree.specs.Tables.{begins, first_fit}
use Rattle.sc_tree.specs.Puncts.{punctuators, punctuator}
use Rattle.sc_tree.specs.Pieces.{punct_piece, piece_of}

-- whether a row's spelling may begin with a byte
abbrev head_fits : {A : Type 0} → ℕ → List ℕ × A → Bool
head_fits c row = begins (take 1 row.0) (c ∷ [])

head_of_fit : (text : List ℕ) (c : ℕ) (cs : List ℕ) → begins (take 1 text) (c ∷ []) ≡ false → begins text (c ∷ cs) ≡ false
head_of_fit [] c cs h = h
head_of_fit (t ∷ ts) c cs h =
    elim (t == c) as (λ b. (b && true) ≡ false → (b && begins ts cs) ≡ false) [ true ↦ (λ bad. absurd (both_ways true bad refl)) | false ↦ (λ e. refl) ] h

-- where no spelling begins with a byte, no row fits bytes that begin with it
no_fit : {A : Type 0} (table : List (List ℕ × A)) (c : ℕ) (cs : List ℕ) → list_any (head_fits c) table ≡ false → first_fit table (c ∷ cs) ≡ None
no_fit [] c cs h = refl
no_fit (row ∷ rows) c cs h =
    let p = or_parts (head_fits c row) (list_any (head_fits c) rows) h in
    cond-false (begins row.0 (c ∷ cs)) (Some row) (first_fit rows (c ∷ cs)) (head_of_fit row.0 c cs p.0) ∙ no_fit rows c cs p.1

-- a row that fits is one of the table's, so its spelling has a byte where all have one
pub fit_has_bytes : {A : Type 0} (table : List (List ℕ × A)) (bytes : List ℕ) (row : List ℕ × A)
    → list_all (λ (r : List ℕ × A). nat_lt 0 (length r.0)) table ≡ true → first_fit table bytes ≡ Some row → 0 < length row.0
fit_has_bytes [] bytes row h e = absurd (cc)
fit_has_bytes {A} (r ∷ rows) bytes row h e =
    let p = and_parts (nat_lt 0 (length r.0)) (list_all (λ (r : List ℕ × A). nat_lt 0 (length r.0)) rows) h in
    elim (cases_Bool (begins r.0 bytes)) [
      | inl fits ↦
          let is : r ≡ row = (let f : first_fit (r ∷ rows) bytes ≡ Some r = cond-true (begins r.0 bytes) (Some r) (first_fit rows bytes) fits in cc) in
          let lt = ltb-true 0 (length r.0) p.0 in
          let P : List ℕ × A → Type 0 = λ x. 0 < length x.0 in
          subst P is lt
      | inr misses ↦ fit_has_bytes rows bytes row p.1 (sym (cond-false (begins r.0 bytes) (Some r) (first_fit rows bytes) misses) ∙ e)
    ]

pub punct_has_bytes : (bytes : List ℕ) (row : List ℕ × Punct) → punctuator bytes ≡ Some row → 0 < length row.0
unfolding punctuator
punct_has_bytes bytes row e = fit_has_bytes punctuators bytes row refl e

-- ---- bytes of other forms begin none

abbrev opens_punct : ℕ → Bool
opens_punct c = list_any (head_fits c) punctuators

pub no_punct : (c : ℕ) (cs : List ℕ) → opens_punct c ≡ false → punct_piece (c ∷ cs) ≡ piece_of form.Blank 0
unfolding punct_piece punctuator
no_punct c cs h = rw (no_fit punctuators c cs h) refl

-- a byte with one property has not another, by a look at all bytes
apart : (f g : ℕ → Bool) (c : ℕ) → (f c && g c) ≡ false → f c ≡ true → g c ≡ false
apart f g c h e = rw e at h

pub space_opens_none : (c : ℕ) → c < 256 → is_space c ≡ true → opens_punct c ≡ false
unfolding is_space
space_opens_none c lt e = apart is_space opens_punct c (agree_below_at (λ x. is_space x && opens_punct x) (λ x. false) 256 c refl lt) e

pub letter_opens_none : (c : ℕ) → c < 256 → is_letter c ≡ true → opens_punct c ≡ false
unfolding is_letter
letter_opens_none c lt e = apart is_letter opens_punct c (agree_below_at (λ x. is_letter x && opens_punct x) (λ x. false) 256 c refl lt) e

pub digit_opens_none : (c : ℕ) → c < 256 → is_ascii_digit c ≡ true → opens_punct c ≡ false
digit_opens_none c lt e = apart is_ascii_digit opens_punct c (agree_below_at (λ x. is_ascii_digit x && opens_punct x) (λ x. false) 256 c refl lt) e

-- a `.` before a digit is no longer a punctuator than itself
pub dot_is_short : (d : ℕ) (ds : List ℕ) → is_ascii_digit d ≡ true → (punct_piece (46 ∷ d ∷ ds)).len ≡ 1
unfolding punct_piece punctuator
dot_is_short d ds e =
    let p = and_parts (nat_le 48 d) (nat_le d 57) e in
    let le = leb-true 48 d p.0 in
    let other : (46 == d) ≡ false = ne_eqb 46 d (λ is. omega arith) in
    rw other refl

-- ---- words are ASCII

in_range_below : (low high c : ℕ) → (nat_le low c && nat_le c high) ≡ true → c ≤ high
in_range_below low high c e = leb-true c high (and_parts (nat_le low c) (nat_le c high) e).1

ascii_letter_or_digit : (c : ℕ) → is_ascii_alphanumeric c ≡ true → c < 128
ascii_letter_or_digit c e =
    elim (or_cases ((nat_le 48 c && nat_le c 57) || (nat_le 65 c && nat_le c 90)) (nat_le 97 c && nat_le c 122) e) [
      | inl a ↦ elim (or_cases (nat_le 48 c && nat_le c 57) (nat_le 65 c && nat_le c 90) a) [
        | inl d ↦ (let h = in_range_below 48 57 c d in omega arith)
        | inr d ↦ (let h = in_range_below 65 90 c d in omega arith)
      ]
      | inr a ↦ (let h = in_range_below 97 122 c a in omega arith)
    ]

pub ascii_word : (c : ℕ) → is_word_byte c ≡ true → c < 128
unfolding is_word_byte
ascii_word c e =
    elim (or_cases (is_ascii_alphanumeric c) ((c == 95) || (c == 36)) e) [
      | inl a ↦ ascii_letter_or_digit c a
      | inr a ↦ elim (or_cases (c == 95) (c == 36) a) [
        | inl d ↦ (let h = eqb-true c 95 d in omega arith)
        | inr d ↦ (let h = eqb-true c 36 d in omega arith)
      ]
    ]
