-- Of the forms at a place at most one has a byte, but for a number that begins with a `.`: so the first
-- that has one is the longest.
use Rattle.std.proofs.Common.{◌≡◌, ℕ, suc, ◌+◌, ◌<◌, ◌≤◌, Bool, true, false, List, [], ◌∷◌, length, take, get_or, refl, sym, ap, ◌∙◌, arith}
use Rattle.std.proofs.Common.{Some, None, inl, inr}
use Rattle.std.specs.Prelude.{◌==◌, ◌&&◌, ◌||◌, not, nat_lt}
use Rattle.std.specs.List.{list_all, prefix_len}
use Rattle.std.specs.Char.{is_ascii_digit}
use Rattle.std.proofs.lemmas.Bool.{and_parts, or_cases, and_left, cond-false, cond-true, cases_Bool, lt-ltb, le-ltb, ne_eqb, eqb-true}
use Rattle.std.proofs.lemmas.Bool.{agree_below_at, and_from, or_from}
use Rattle.sc_tree.specs.declared.token.Kind.TheVariants as kind
use Rattle.sc_tree.specs.declared.piece.Form.TheVariants as form
use Rattle.sc_tree.specs.declared.piece.Piece.{Piece}
use Rattle.sc_tree.specs.declared.token.Punct.{Punct}
use Rattle.sc_tree.specs.Bytes.{is_space, is_letter, is_word_byte}
use Rattle.sc_tree.specs.Puncts.{punctuator}
use Rattle.sc_tree.specs.Pieces.{space_len, line_len, word_len, number_len, number_tail, is_digit_front, piece_of, number_piece}
use Rattle.sc_tree.specs.Pieces.{punct_piece, longer, longest, plain_piece}
use Rattle.sc_lexer.proofs.PunctProofs.{no_punct, space_opens_none, letter_opens_none, digit_opens_none, dot_is_short, punct_has_bytes}

-- ---- the longer of two

longer_first : (p q : Piece) → q.len ≤ p.len → longer p q ≡ p
unfolding longer
longer_first p q le = cond-false (nat_lt p.len q.len) q p (le-ltb p.len q.len le)

longer_second : (p q : Piece) → p.len < q.len → longer p q ≡ q
unfolding longer
longer_second p q lt = cond-true (nat_lt p.len q.len) q p (lt-ltb p.len q.len lt)

-- the piece that is the longest of five, each case by where the first byte is
abbrev five : Piece → Piece → Piece → Piece → Piece → Piece
five s l w n p = longer s (longer l (longer w (longer n p)))

five_first : (s l w n p : Piece) → l.len ≡ 0 → w.len ≡ 0 → n.len ≡ 0 → p.len ≡ 0 → five s l w n p ≡ s
five_first s l w n p zl zw zn zp =
    let a : longer n p ≡ n = longer_first n p (omega arith) in
    let b : longer w n ≡ w = longer_first w n (omega arith) in
    let d : longer l w ≡ l = longer_first l w (omega arith) in
    ap (λ (x : Piece). longer s (longer l (longer w x))) a ∙ ap (λ (x : Piece). longer s (longer l x)) b ∙ ap (λ (x : Piece). longer s x) d
    ∙ longer_first s l (omega arith)

five_second : (s l w n p : Piece) → s.len ≡ 0 → 0 < l.len → w.len ≡ 0 → n.len ≡ 0 → p.len ≡ 0 → five s l w n p ≡ l
five_second s l w n p zs pl zw zn zp =
    let a : longer n p ≡ n = longer_first n p (omega arith) in
    let b : longer w n ≡ w = longer_first w n (omega arith) in
    let d : longer l w ≡ l = longer_first l w (omega arith) in
    ap (λ (x : Piece). longer s (longer l (longer w x))) a ∙ ap (λ (x : Piece). longer s (longer l x)) b ∙ ap (λ (x : Piece). longer s x) d
    ∙ longer_second s l (omega arith)

five_third : (s l w n p : Piece) → s.len ≡ 0 → l.len ≡ 0 → 0 < w.len → n.len ≡ 0 → p.len ≡ 0 → five s l w n p ≡ w
five_third s l w n p zs zl pw zn zp =
    let a : longer n p ≡ n = longer_first n p (omega arith) in
    let b : longer w n ≡ w = longer_first w n (omega arith) in
    let d : longer l w ≡ w = longer_second l w (omega arith) in
    ap (λ (x : Piece). longer s (longer l (longer w x))) a ∙ ap (λ (x : Piece). longer s (longer l x)) b ∙ ap (λ (x : Piece). longer s x) d
    ∙ longer_second s w (omega arith)

five_fourth : (s l w n p : Piece) → s.len ≡ 0 → l.len ≡ 0 → w.len ≡ 0 → 0 < n.len → p.len ≤ n.len → five s l w n p ≡ n
five_fourth s l w n p zs zl zw pn le =
    let a : longer n p ≡ n = longer_first n p le in
    let b : longer w n ≡ n = longer_second w n (omega arith) in
    let d : longer l n ≡ n = longer_second l n (omega arith) in
    ap (λ (x : Piece). longer s (longer l (longer w x))) a ∙ ap (λ (x : Piece). longer s (longer l x)) b ∙ ap (λ (x : Piece). longer s x) d
    ∙ longer_second s n (omega arith)

five_fifth : (s l w n p : Piece) → s.len ≡ 0 → l.len ≡ 0 → w.len ≡ 0 → n.len ≡ 0 → 0 < p.len → five s l w n p ≡ p
five_fifth s l w n p zs zl zw zn pp =
    let a : longer n p ≡ p = longer_second n p (omega arith) in
    let b : longer w p ≡ p = longer_second w p (omega arith) in
    let d : longer l p ≡ p = longer_second l p (omega arith) in
    ap (λ (x : Piece). longer s (longer l (longer w x))) a ∙ ap (λ (x : Piece). longer s (longer l x)) b ∙ ap (λ (x : Piece). longer s x) d
    ∙ longer_second s p (omega arith)

-- ---- what a first byte excludes

no_space : (c : ℕ) (cs : List ℕ) → is_space c ≡ false → space_len (c ∷ cs) ≡ 0
no_space c cs e = cond-false (is_space c) (1 + prefix_len is_space cs) 0 e

is_space_of : (c : ℕ) (cs : List ℕ) → 0 < space_len (c ∷ cs) → is_space c ≡ true
is_space_of c cs h = elim (cases_Bool (is_space c)) [ inl e ↦ e | inr e ↦ absurd (let z = no_space c cs e in omega arith) ]

no_line : (fresh : Bool) (c : ℕ) (cs : List ℕ) → (c == 35) ≡ false → line_len fresh (c ∷ cs) ≡ 0
no_line true c cs e = rw e refl
no_line false c cs e = refl

is_line_of : (fresh : Bool) (c : ℕ) (cs : List ℕ) → 0 < line_len fresh (c ∷ cs) → c ≡ 35
is_line_of fresh c cs h = elim (cases_Bool (c == 35)) [ inl e ↦ eqb-true c 35 e | inr e ↦ absurd (let z = no_line fresh c cs e in omega arith) ]

no_word : (c : ℕ) (cs : List ℕ) → is_letter c ≡ false → word_len (c ∷ cs) ≡ 0
no_word c cs e = rw e refl

is_word_of : (c : ℕ) (cs : List ℕ) → 0 < word_len (c ∷ cs) → is_letter c ≡ true
is_word_of c cs h = elim (cases_Bool (is_letter c)) [ inl e ↦ e | inr e ↦ absurd (let z = no_word c cs e in omega arith) ]

abbrev begins_number : ℕ → List ℕ → Bool
begins_number c cs = is_ascii_digit c || ((c == 46) && is_digit_front cs)

no_number : (c : ℕ) (cs : List ℕ) → is_ascii_digit c ≡ false → (c == 46) ≡ false → number_len (c ∷ cs) ≡ 0
no_number c cs d e = cond-false (begins_number c cs) (1 + number_tail c cs) 0
    (or_from (is_ascii_digit c) ((c == 46) && is_digit_front cs) d (and_left (c == 46) (is_digit_front cs) e))

is_number_of : (c : ℕ) (cs : List ℕ) → 0 < number_len (c ∷ cs) → begins_number c cs ≡ true
is_number_of c cs h =
    elim (cases_Bool (begins_number c cs)) [
      | inl e ↦ e
      | inr e ↦ absurd (let z : number_len (c ∷ cs) ≡ 0 = cond-false (begins_number c cs) (1 + number_tail c cs) 0 e in omega arith)
    ]

-- a byte with one property has not another
apart : (f g : ℕ → Bool) (c : ℕ) → (f c && g c) ≡ false → f c ≡ true → g c ≡ false
apart f g c h e = rw e at h

space_is_no_letter : (c : ℕ) → c < 256 → is_space c ≡ true → is_letter c ≡ false
unfolding is_space is_letter
space_is_no_letter c lt e = apart is_space is_letter c (agree_below_at (λ x. is_space x && is_letter x) (λ x. false) 256 c refl lt) e

space_is_no_hash : (c : ℕ) → c < 256 → is_space c ≡ true → (c == 35) ≡ false
unfolding is_space
space_is_no_hash c lt e = apart is_space (λ x. x == 35) c (agree_below_at (λ x. is_space x && (x == 35)) (λ x. false) 256 c refl lt) e

space_is_no_digit : (c : ℕ) → c < 256 → is_space c ≡ true → is_ascii_digit c ≡ false
unfolding is_space
space_is_no_digit c lt e = apart is_space is_ascii_digit c (agree_below_at (λ x. is_space x && is_ascii_digit x) (λ x. false) 256 c refl lt) e

space_is_no_dot : (c : ℕ) → c < 256 → is_space c ≡ true → (c == 46) ≡ false
unfolding is_space
space_is_no_dot c lt e = apart is_space (λ x. x == 46) c (agree_below_at (λ x. is_space x && (x == 46)) (λ x. false) 256 c refl lt) e

letter_is_no_digit : (c : ℕ) → c < 256 → is_letter c ≡ true → is_ascii_digit c ≡ false
unfolding is_letter
letter_is_no_digit c lt e = apart is_letter is_ascii_digit c (agree_below_at (λ x. is_letter x && is_ascii_digit x) (λ x. false) 256 c refl lt) e

letter_is_no_dot : (c : ℕ) → c < 256 → is_letter c ≡ true → (c == 46) ≡ false
unfolding is_letter
letter_is_no_dot c lt e = apart is_letter (λ x. x == 46) c (agree_below_at (λ x. is_letter x && (x == 46)) (λ x. false) 256 c refl lt) e

letter_is_word_byte : (c : ℕ) → c < 256 → is_letter c ≡ true → not (is_word_byte c) ≡ false
unfolding is_letter is_word_byte
letter_is_word_byte c lt e = apart is_letter (λ x. not (is_word_byte x)) c
    (agree_below_at (λ x. is_letter x && not (is_word_byte x)) (λ x. false) 256 c refl lt) e

-- ---- the piece by the first form that has a byte

plain_is : (fresh : Bool) (bytes : List ℕ) (q : Piece) → longest fresh bytes ≡ q → 0 < q.len → Some q ≡ plain_piece fresh bytes
unfolding plain_piece
plain_is fresh bytes q e lt =
    let some : (q.len == 0) ≡ false = ne_eqb q.len 0 (λ z. omega arith) in
    rw (e, some) refl

punct_len_of_none : (c : ℕ) (cs : List ℕ) → punct_piece (c ∷ cs) ≡ piece_of form.Blank 0 → (punct_piece (c ∷ cs)).len ≡ 0
punct_len_of_none c cs e = ap (λ (p : Piece). p.len) e

pub plain_space : (fresh : Bool) (bytes : List ℕ) (n : ℕ) → ((i : ℕ) → get_or bytes i 0 < 256) → n ≡ space_len bytes → 0 < n
    → Some (piece_of form.Blank n) ≡ plain_piece fresh bytes
unfolding longest
plain_space fresh [] n bound is lt = absurd (omega arith)
plain_space fresh (c ∷ cs) n bound is lt =
    let b : c < 256 = bound 0 in
    let e : is_space c ≡ true = is_space_of c cs (omega arith) in
    let p = punct_len_of_none c cs (no_punct c cs (space_opens_none c b e)) in
    let whole = five_first (piece_of form.Blank (space_len (c ∷ cs))) (piece_of form.Blank (line_len fresh (c ∷ cs)))
    (piece_of form.Word (word_len (c ∷ cs))) (number_piece (number_len (c ∷ cs)) (c ∷ cs)) (punct_piece (c ∷ cs))
    (no_line fresh c cs (space_is_no_hash c b e)) (no_word c cs (space_is_no_letter c b e))
    (no_number c cs (space_is_no_digit c b e) (space_is_no_dot c b e)) p in
    ap (λ (m : ℕ). Some (piece_of form.Blank m)) is ∙ plain_is fresh (c ∷ cs) (piece_of form.Blank (space_len (c ∷ cs))) whole (omega arith)

line_excludes : (c : ℕ) → c ≡ 35 → (is_letter c ≡ false) × (is_ascii_digit c ≡ false) × ((c == 46) ≡ false)
unfolding is_letter
line_excludes c e = rw e (refl, refl, refl)

line_opens_none : (c : ℕ) (cs : List ℕ) → c ≡ 35 → punct_piece (c ∷ cs) ≡ piece_of form.Blank 0
line_opens_none c cs e = ap (λ (x : ℕ). punct_piece (x ∷ cs)) e ∙ no_punct 35 cs refl ∙ refl

pub plain_line : (fresh : Bool) (bytes : List ℕ) (n : ℕ) → space_len bytes ≤ 0 → n ≡ line_len fresh bytes → 0 < n
    → Some (piece_of form.Blank n) ≡ plain_piece fresh bytes
unfolding longest
plain_line fresh [] n s is lt = absurd (omega arith)
plain_line fresh (c ∷ cs) n s is lt =
    let e : c ≡ 35 = is_line_of fresh c cs (omega arith) in
    let x = line_excludes c e in
    let p = punct_len_of_none c cs (line_opens_none c cs e) in
    let z : space_len (c ∷ cs) ≡ 0 = omega arith in
    let l : 0 < line_len fresh (c ∷ cs) = omega arith in
    let whole = five_second (piece_of form.Blank (space_len (c ∷ cs))) (piece_of form.Blank (line_len fresh (c ∷ cs)))
    (piece_of form.Word (word_len (c ∷ cs))) (number_piece (number_len (c ∷ cs)) (c ∷ cs)) (punct_piece (c ∷ cs))
    z l (no_word c cs x.0) (no_number c cs x.1 x.2) p in
    ap (λ (m : ℕ). Some (piece_of form.Blank m)) is ∙ plain_is fresh (c ∷ cs) (piece_of form.Blank (line_len fresh (c ∷ cs))) whole l

pub plain_word : (fresh : Bool) (bytes : List ℕ) (n : ℕ) → ((i : ℕ) → get_or bytes i 0 < 256) → space_len bytes ≤ 0
    → line_len fresh bytes ≤ 0 → n ≡ word_len bytes → 0 < n → Some (piece_of form.Word n) ≡ plain_piece fresh bytes
unfolding longest
plain_word fresh [] n bound s l is lt = absurd (omega arith)
plain_word fresh (c ∷ cs) n bound s l is lt =
    let b : c < 256 = bound 0 in
    let w : 0 < word_len (c ∷ cs) = omega arith in
    let e : is_letter c ≡ true = is_word_of c cs w in
    let p = punct_len_of_none c cs (no_punct c cs (letter_opens_none c b e)) in
    let zs : space_len (c ∷ cs) ≡ 0 = omega arith in
    let zl : line_len fresh (c ∷ cs) ≡ 0 = omega arith in
    let whole = five_third (piece_of form.Blank (space_len (c ∷ cs))) (piece_of form.Blank (line_len fresh (c ∷ cs)))
    (piece_of form.Word (word_len (c ∷ cs))) (number_piece (number_len (c ∷ cs)) (c ∷ cs)) (punct_piece (c ∷ cs))
    zs zl w (no_number c cs (letter_is_no_digit c b e) (letter_is_no_dot c b e)) p in
    ap (λ (m : ℕ). Some (piece_of form.Word m)) is ∙ plain_is fresh (c ∷ cs) (piece_of form.Word (word_len (c ∷ cs))) whole w

dot_punct : (c : ℕ) (cs : List ℕ) → ((c == 46) && is_digit_front cs) ≡ true → (punct_piece (c ∷ cs)).len ≡ 1
dot_punct c [] h = absurd (let p = and_parts (c == 46) false h in both p.1)
  where
    both : false ≡ true → ⊥
    both e = cc
dot_punct c (d ∷ ds) h =
    let p = and_parts (c == 46) (is_digit_front (d ∷ ds)) h in
    let e = eqb-true c 46 p.0 in
    let is : is_ascii_digit d ≡ true = digit_of d p.1 in
    ap (λ (x : ℕ). (punct_piece (x ∷ d ∷ ds)).len) e ∙ dot_is_short d ds is
  where
    digit_of : (d : ℕ) → is_digit_front (d ∷ []) ≡ true → is_ascii_digit d ≡ true
    digit_of d h = elim (cases_Bool (is_ascii_digit d)) [ inl e ↦ e | inr e ↦ absurd (let z : is_digit_front (d ∷ []) ≡ false = rw e refl in cc) ]

number_over_punct : (c : ℕ) (cs : List ℕ) → c < 256 → begins_number c cs ≡ true → (punct_piece (c ∷ cs)).len ≤ number_len (c ∷ cs)
number_over_punct c cs b e =
    let n : number_len (c ∷ cs) ≡ 1 + number_tail c cs = cond-true (begins_number c cs) (1 + number_tail c cs) 0 e in
    elim (or_cases (is_ascii_digit c) ((c == 46) && is_digit_front cs) e) [
      | inl d ↦ (let p = punct_len_of_none c cs (no_punct c cs (digit_opens_none c b d)) in omega arith)
      | inr d ↦ (let p = dot_punct c cs d in omega arith)
    ]

pub plain_number : (fresh : Bool) (bytes : List ℕ) (n : ℕ) → ((i : ℕ) → get_or bytes i 0 < 256) → space_len bytes ≤ 0
    → line_len fresh bytes ≤ 0 → word_len bytes ≤ 0 → n ≡ number_len bytes → 0 < n → Some (number_piece n bytes) ≡ plain_piece fresh bytes
unfolding longest
plain_number fresh [] n bound s l w is lt = absurd (omega arith)
plain_number fresh (c ∷ cs) n bound s l w is lt =
    let b : c < 256 = bound 0 in
    let k : 0 < number_len (c ∷ cs) = omega arith in
    let e = is_number_of c cs k in
    let zs : space_len (c ∷ cs) ≡ 0 = omega arith in
    let zl : line_len fresh (c ∷ cs) ≡ 0 = omega arith in
    let zw : word_len (c ∷ cs) ≡ 0 = omega arith in
    let whole = five_fourth (piece_of form.Blank (space_len (c ∷ cs))) (piece_of form.Blank (line_len fresh (c ∷ cs)))
    (piece_of form.Word (word_len (c ∷ cs))) (number_piece (number_len (c ∷ cs)) (c ∷ cs)) (punct_piece (c ∷ cs))
    zs zl zw k (number_over_punct c cs b e) in
    ap (λ (m : ℕ). Some (number_piece m (c ∷ cs))) is ∙ plain_is fresh (c ∷ cs) (number_piece (number_len (c ∷ cs)) (c ∷ cs)) whole k

punct_piece_of : (bytes : List ℕ) (row : List ℕ × Punct) → punctuator bytes ≡ Some row → punct_piece bytes
    ≡ piece_of (form.Known (kind.Punct row.1)) (length row.0)
unfolding punct_piece
punct_piece_of bytes row e = rw e refl

punct_piece_none : (bytes : List ℕ) → punctuator bytes ≡ None → punct_piece bytes ≡ piece_of form.Blank 0
unfolding punct_piece
punct_piece_none bytes e = rw e refl

pub plain_punct : (fresh : Bool) (bytes : List ℕ) (row : List ℕ × Punct) → space_len bytes ≤ 0 → line_len fresh bytes ≤ 0
    → word_len bytes ≤ 0 → number_len bytes ≤ 0 → punctuator bytes ≡ Some row
    → Some (piece_of (form.Known (kind.Punct row.1)) (length row.0)) ≡ plain_piece fresh bytes
unfolding longest
plain_punct fresh bytes row s l w n is =
    let p = punct_piece_of bytes row is in
    let len : (punct_piece bytes).len ≡ length row.0 = ap (λ (q : Piece). q.len) p in
    let k : 0 < length row.0 = punct_has_bytes bytes row is in
    let zs : space_len bytes ≡ 0 = omega arith in
    let zl : line_len fresh bytes ≡ 0 = omega arith in
    let zw : word_len bytes ≡ 0 = omega arith in
    let zn : number_len bytes ≡ 0 = omega arith in
    let pos : 0 < (punct_piece bytes).len = omega arith in
    let whole = five_fifth (piece_of form.Blank (space_len bytes)) (piece_of form.Blank (line_len fresh bytes))
    (piece_of form.Word (word_len bytes)) (number_piece (number_len bytes) bytes) (punct_piece bytes)
    zs zl zw zn pos in
    ap (λ (q : Piece). Some q) (sym p) ∙ plain_is fresh bytes (punct_piece bytes) whole pos

none_of_zero : (fresh : Bool) (bytes : List ℕ) (q : Piece) → longest fresh bytes ≡ q → q.len ≡ 0 → None ≡ plain_piece fresh bytes
unfolding plain_piece
none_of_zero fresh bytes q e z = rw (e, z) refl

pub plain_none : (fresh : Bool) (bytes : List ℕ) → space_len bytes ≤ 0 → line_len fresh bytes ≤ 0 → word_len bytes ≤ 0
    → number_len bytes ≤ 0 → punctuator bytes ≡ None → None ≡ plain_piece fresh bytes
unfolding longest
plain_none fresh bytes s l w n is =
    let zs : space_len bytes ≡ 0 = omega arith in
    let zl : line_len fresh bytes ≡ 0 = omega arith in
    let zw : word_len bytes ≡ 0 = omega arith in
    let zn : number_len bytes ≡ 0 = omega arith in
    let zp : (punct_piece bytes).len ≡ 0 = ap (λ (q : Piece). q.len) (punct_piece_none bytes is) in
    let whole = five_first (piece_of form.Blank (space_len bytes)) (piece_of form.Blank (line_len fresh bytes))
    (piece_of form.Word (word_len bytes)) (number_piece (number_len bytes) bytes) (punct_piece bytes)
    zl zw zn zp in
    none_of_zero fresh bytes (piece_of form.Blank (space_len bytes)) whole zs

-- ---- the text of a word

front_passes : (xs : List ℕ) → list_all is_word_byte (take (prefix_len is_word_byte xs) xs) ≡ true
front_passes [] = refl
front_passes (x ∷ xs) =
    elim (cases_Bool (is_word_byte x)) [
      | inl e ↦
          let one : prefix_len is_word_byte (x ∷ xs) ≡ suc (prefix_len is_word_byte xs) =
          cond-true (is_word_byte x) (1 + prefix_len is_word_byte xs) 0 e ∙ (omega arith) in
          rw one (and_from (is_word_byte x) (list_all is_word_byte (take (prefix_len is_word_byte xs) xs)) e (front_passes xs))
      | inr e ↦
          let none : prefix_len is_word_byte (x ∷ xs) ≡ 0 = cond-false (is_word_byte x) (1 + prefix_len is_word_byte xs) 0 e in
          rw none refl
    ]

pub word_text : (bytes : List ℕ) (n : ℕ) → ((i : ℕ) → get_or bytes i 0 < 256) → n ≡ word_len bytes → 0 < n → list_all is_word_byte (take n bytes) ≡ true
word_text [] n bound is lt = absurd (omega arith)
word_text (c ∷ cs) n bound is lt =
    let b : c < 256 = bound 0 in
    let e : is_letter c ≡ true = is_word_of c cs (omega arith) in
    let one : n ≡ suc (prefix_len is_word_byte cs) = is ∙ cond-true (is_letter c) (1 + prefix_len is_word_byte cs) 0 e ∙ (omega arith) in
    let w : is_word_byte c ≡ true = not_false (is_word_byte c) (letter_is_word_byte c b e) in
    rw one (and_from (is_word_byte c) (list_all is_word_byte (take (prefix_len is_word_byte cs) cs)) w (front_passes cs))
  where
    not_false : (x : Bool) → not x ≡ false → x ≡ true
    not_false true e = refl
    not_false false e = absurd (cc)
