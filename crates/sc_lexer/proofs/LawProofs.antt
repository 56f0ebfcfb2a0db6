-- No piece is empty, and a table in which no spelling stands before a longer one that begins with it gives
-- the longest fit.
use Rattle.std.proofs.Common.{◌≡◌, ℕ, ◌+◌, ◌<◌, ◌≤◌, Bool, true, List, [], ◌∷◌, length, take, drop, refl, sym, ap, ◌∙◌, arith, Option, Some}
use Rattle.std.proofs.Common.{None, inl, inr, subst}
use Rattle.std.specs.Prelude.{◌==◌, ◌&&◌, not, nat_lt, option_map, unwrap_or, bytes_eq}
use Rattle.std.proofs.lemmas.Bool.{and_parts, and_from, or_cases, cond-false, cond-true, cases_Bool, cases_lt, eqb-false, lt-ltb}
use Rattle.std.proofs.lemmas.List.{take-take}
use Rattle.std.proofs.lemmas.Slice.Eq.{bytes_eq-Decides}
use Rattle.sc_tree.specs.declared.token.Punct.{Punct}
use Rattle.sc_tree.specs.declared.piece.Piece.{Piece}
use Rattle.sc_tree.specs.declared.piece.Opening.{Opening}
use Rattle.sc_tree.specs.Tables.{begins, first_fit}
use Rattle.sc_lexer.specs.Laws.{is_spelling}
use Rattle.sc_tree.specs.Puncts.{punctuators, punctuator}
use Rattle.sc_tree.specs.Literals.{openings, opening, opened}
use Rattle.sc_tree.specs.Pieces.{piece, plain_piece, closed, longest, piece_of}
use Rattle.sc_lexer.proofs.PunctProofs.{fit_has_bytes}

-- ---- no piece is empty

plain_has_bytes : (fresh : Bool) (bytes : List ℕ) (p : Piece) → plain_piece fresh bytes ≡ Some p → 0 < p.len
unfolding plain_piece
plain_has_bytes fresh bytes p e =
    let q = longest fresh bytes in
    elim (cases_Bool (q.len == 0)) [
      | inl z ↦ absurd (let n : plain_piece fresh bytes ≡ None = cond-true (q.len == 0) None (Some q) z in cc)
      | inr z ↦
          let s : plain_piece fresh bytes ≡ Some q = cond-false (q.len == 0) None (Some q) z in
          let same : q ≡ p = (cc) in
          let len : q.len ≡ p.len = ap (λ (x : Piece). x.len) same in
          let some = eqb-false q.len 0 z in
          omega arith
    ]

closed_has_bytes : (n : ℕ) (o : Opening) (bytes : List ℕ) (p : Piece) → 0 < n → closed n o bytes ≡ Some p → 0 < p.len
unfolding closed
closed_has_bytes n o bytes p pos e = from_opened (opened o (drop n bytes)) e
  where
    from_opened : (r : Option Piece) → option_map (λ q. piece_of q.form (n + q.len)) r ≡ Some p → 0 < p.len
    from_opened None e = absurd (cc)
    from_opened (Some q) e = let same : piece_of q.form (n + q.len) ≡ p = (cc) in let len : n + q.len ≡ p.len = ap (λ (x : Piece). x.len) same in omega arith

opening_has_bytes : (bytes : List ℕ) (row : List ℕ × Opening) → opening bytes ≡ Some row → 0 < length row.0
unfolding opening
opening_has_bytes bytes row e = fit_has_bytes openings bytes row refl e

piece_by : (o : Option (List ℕ × Opening)) (fresh : Bool) (bytes : List ℕ) (p : Piece) → opening bytes ≡ o
    → unwrap_or (option_map (λ row. closed (length row.0) row.1 bytes) o) (plain_piece fresh bytes) ≡ Some p → 0 < p.len
piece_by None fresh bytes p is e = plain_has_bytes fresh bytes p e
piece_by (Some row) fresh bytes p is e = closed_has_bytes (length row.0) row.1 bytes p (opening_has_bytes bytes row is) e

pub piece_has_bytes : (fresh : Bool) (bytes : List ℕ) (p : Piece) → piece fresh bytes ≡ Some p → 0 < p.len
unfolding piece
piece_has_bytes fresh bytes p e = piece_by (opening bytes) fresh bytes p refl e

-- ---- the longest fit

-- whether no spelling below begins with this one and is longer
abbrev stands_right : {A : Type 0} → List ℕ → List (List ℕ × A) → Bool
stands_right text [] = true
stands_right text (r ∷ rows) = not (begins text r.0 && nat_lt (length text) (length r.0)) && stands_right text rows

abbrev is_ordered : {A : Type 0} → List (List ℕ × A) → Bool
is_ordered [] = true
is_ordered (r ∷ rows) = stands_right r.0 rows && is_ordered rows

-- of two fronts of some bytes the shorter one is a front of the longer one
front_of_front : (a b bytes : List ℕ) → begins a bytes ≡ true → begins b bytes ≡ true → length a ≤ length b → begins a b ≡ true
front_of_front a b bytes ea eb le =
    let ia : a ≡ take (length a) bytes = (bytes_eq-Decides a (take (length a) bytes)).0 ea in
    let ib : b ≡ take (length b) bytes = (bytes_eq-Decides b (take (length b) bytes)).0 eb in
    let t : take (length a) b ≡ take (length a) bytes = ap (λ (xs : List ℕ). take (length a) xs) ib ∙ take-take (length a) (length b) bytes le in
    (bytes_eq-Decides a (take (length a) b)).1 (ia ∙ sym t)

contradiction : (a text : List ℕ) → begins a text ≡ true → length a < length text → not (begins a text && nat_lt (length a) (length text)) ≡ true → ⊥
contradiction a text e lt h =
    let both : (begins a text && nat_lt (length a) (length text)) ≡ true =
    and_from (begins a text) (nat_lt (length a) (length text)) e (lt-ltb (length a) (length text) lt) in
    let bad : not true ≡ true = ap not (sym both) ∙ h in
    cc

same_text : (r text : List ℕ) → bytes_eq r text ≡ true → r ≡ text
same_text r text e = (bytes_eq-Decides r text).0 e

not_longer : {A : Type 0} (a : List ℕ) (rows : List (List ℕ × A)) (text bytes : List ℕ) → stands_right a rows ≡ true → is_spelling rows text
    ≡ true → begins a bytes ≡ true → begins text bytes ≡ true → length text ≤ length a
not_longer a [] text bytes right is ea et = absurd (cc)
not_longer a (r ∷ rows) text bytes right is ea et =
    let p = and_parts (not (begins a r.0 && nat_lt (length a) (length r.0))) (stands_right a rows) right in
    elim (or_cases (bytes_eq r.0 text) (is_spelling rows text) is) [
      | inl e ↦ elim (cases_lt (length a) (length text)) [
        | inl lt ↦ absurd (
            let here : not (begins a text && nat_lt (length a) (length text)) ≡ true =
            ap (λ (xs : List ℕ). not (begins a xs && nat_lt (length a) (length xs))) (sym (same_text r.0 text e)) ∙ p.0 in
            contradiction a text (front_of_front a text bytes ea et (omega arith)) lt here)
        | inr le ↦ le
      ]
      | inr e ↦ not_longer a rows text bytes p.1 e ea et
    ]

fit_is_longest : {A : Type 0} (table : List (List ℕ × A)) (bytes text : List ℕ) (row : List ℕ × A) → is_ordered table ≡ true
    → first_fit table bytes ≡ Some row → is_spelling table text ≡ true → begins text bytes ≡ true → length text ≤ length row.0
fit_is_longest [] bytes text row ordered fit is et = absurd (cc)
fit_is_longest {A} (r ∷ rows) bytes text row ordered fit is et =
    let p = and_parts (stands_right r.0 rows) (is_ordered rows) ordered in
    elim (cases_Bool (begins r.0 bytes)) [
      | inl fits ↦
          let f : first_fit (r ∷ rows) bytes ≡ Some r = cond-true (begins r.0 bytes) (Some r) (first_fit rows bytes) fits in
          let same : r ≡ row = (cc) in
          let P : List ℕ × A → Type 0 = λ x. length text ≤ length x.0 in
          subst P same (elim (or_cases (bytes_eq r.0 text) (is_spelling rows text) is) [
            | inl e ↦ (let l : length r.0 ≡ length text = ap (λ (xs : List ℕ). length xs) (same_text r.0 text e) in omega arith)
            | inr e ↦ not_longer r.0 rows text bytes p.0 e fits et
          ])
      | inr misses ↦
          let f : first_fit rows bytes ≡ Some row = sym (cond-false (begins r.0 bytes) (Some r) (first_fit rows bytes) misses) ∙ fit in
          elim (or_cases (bytes_eq r.0 text) (is_spelling rows text) is) [
            | inl e ↦ absurd (let b : begins r.0 bytes ≡ true = ap (λ (xs : List ℕ). begins xs bytes) (same_text r.0 text e) ∙ et in cc)
            | inr e ↦ fit_is_longest rows bytes text row p.1 f e et
          ]
    ]

pub punctuator_is_longest : (bytes text : List ℕ) (row : List ℕ × Punct) → punctuator bytes ≡ Some row → is_spelling punctuators text ≡ true
    → begins text bytes ≡ true → length text ≤ length row.0
unfolding punctuator
punctuator_is_longest bytes text row fit is et = fit_is_longest punctuators bytes text row refl fit is et
