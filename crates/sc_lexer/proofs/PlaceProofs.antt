-- Counting byte by byte gives the place that is counted from all bytes before.
use Rattle.std.proofs.Common.{◌≡◌, ℕ, ◌+◌, ◌-◌, ◌<◌, ◌≤◌, Bool, true, false, cond, List, [], ◌∷◌, ◌++◌, length, take, drop, refl, sym, ap}
use Rattle.std.proofs.Common.{◌∙◌, arith, append_assoc, inl, inr}
use Rattle.std.specs.Prelude.{◌&&◌, not}
use Rattle.std.specs.List.{list_all, suffix_len, prefix_len, count_by}
use Rattle.std.proofs.lemmas.Bool.{cases_Bool}
use Rattle.std.proofs.lemmas.List.{reverse-append, drop-append-le, drop_all, length-drop, length-take, append-nil, length_push}
use Rattle.std.proofs.lemmas.List.Folds.{list_all-append}
use Rattle.std.proofs.lemmas.List.Sums.{suffix_len-le-length, count_by-le-length, sum_by-append}
use Rattle.std.proofs.Math.Bool.{and-true}
use Rattle.sc_tree.specs.Bytes.{is_feed, is_blank}
use Rattle.sc_base.specs.declared.pos.Pos.{Pos}
use Rattle.sc_tree.specs.Places.{line_at, line_so_far, column_at, pos_at}
use Rattle.sc_lexer.specs.declared.place.Place.{Place}
use Rattle.sc_lexer.specs.Place.{place_at, stepped, passed}

count_push : (p : ℕ → Bool) (xs : List ℕ) (c : ℕ) → count_by p (xs ++ c ∷ []) ≡ count_by p xs + cond (p c) 1 0
count_push p xs c =
    let e = sum_by-append (λ x. cond (p x) 1 0) xs (c ∷ []) in
    e ∙ (omega arith)

suffix_push : (p : ℕ → Bool) (xs : List ℕ) (c : ℕ) → suffix_len p (xs ++ c ∷ []) ≡ cond (p c) (1 + suffix_len p xs) 0
suffix_push p xs c = ap (λ (ys : List ℕ). prefix_len p ys) (reverse-append xs (c ∷ []))

abbrev in_line : ℕ → Bool
in_line c = not (is_feed c)

line_at_feed : (before : List ℕ) (c : ℕ) → is_feed c ≡ true → line_so_far (before ++ c ∷ []) ≡ []
unfolding line_so_far
line_at_feed before c e =
    let s : suffix_len in_line (before ++ c ∷ []) ≡ 0 = suffix_push in_line before c ∙ (rw e refl) in
    drop_all (length (before ++ c ∷ []) - suffix_len in_line (before ++ c ∷ [])) (before ++ c ∷ []) (omega arith)

line_in_line : (before : List ℕ) (c : ℕ) → is_feed c ≡ false → line_so_far (before ++ c ∷ []) ≡ line_so_far before ++ c ∷ []
unfolding line_so_far
line_in_line before c e =
    let s : suffix_len in_line (before ++ c ∷ []) ≡ 1 + suffix_len in_line before = suffix_push in_line before c ∙ (rw e refl) in
    let l = length_push before c in
    let le = suffix_len-le-length in_line before in
    let n : length (before ++ c ∷ []) - suffix_len in_line (before ++ c ∷ []) ≡ length before - suffix_len in_line before = omega arith in
    ap (λ (m : ℕ). drop m (before ++ c ∷ [])) n ∙ drop-append-le (length before - suffix_len in_line before) before (c ∷ []) (omega arith)

line_number : (before : List ℕ) (c : ℕ) → line_at (before ++ c ∷ []) ≡ line_at before + cond (is_feed c) 1 0
unfolding line_at
line_number before c = let e = count_push is_feed before c in omega arith

-- one byte more
pub stepped_is : (before : List ℕ) (c : ℕ) → stepped (place_at before) c ≡ place_at (before ++ c ∷ [])
unfolding stepped
stepped_is before c =
    elim (cases_Bool (is_feed c)) [
      | inl e ↦
          let n : line_at (before ++ c ∷ []) ≡ line_at before + 1 = line_number before c ∙ (rw e refl) in
          rw (e, n, line_at_feed before c e) refl
      | inr e ↦
          let n : line_at (before ++ c ∷ []) ≡ line_at before = line_number before c ∙ (rw e (omega arith)) in
          let col : length (line_so_far before ++ c ∷ []) + 1 ≡ length (line_so_far before) + 1 + 1 =
          (let l = length_push (line_so_far before) c in omega arith) in
          let fresh : list_all is_blank (line_so_far before ++ c ∷ []) ≡ (list_all is_blank (line_so_far before) && is_blank c) =
          list_all-append is_blank (line_so_far before) (c ∷ [])
          ∙ ap (λ (b : Bool). list_all is_blank (line_so_far before) && b) (and-true (is_blank c)) in
          rw (e, n, line_in_line before c e, col, fresh) refl
    ]

-- a text more
pub passed_is : (before text : List ℕ) → passed (place_at before) text ≡ place_at (before ++ text)
passed_is before [] = ap place_at (sym (append-nil before))
passed_is before (c ∷ cs) =
    ap (λ (p : Place). passed p cs) (stepped_is before c) ∙ passed_is (before ++ c ∷ []) cs ∙ ap place_at (append_assoc before (c ∷ []) cs)

-- ---- lines and columns are no larger than the bytes before allow

pub line_small : (before : List ℕ) → line_at before ≤ length before + 1
unfolding line_at
line_small before = let h = count_by-le-length is_feed before in omega arith

pub column_small : (before : List ℕ) → column_at before ≤ length before + 1
unfolding line_so_far
column_small before = let h = length-drop (length before - suffix_len in_line before) before in omega arith

-- the position of a place that is counted so
pub pos_is : (file : ℕ) (p : Place) (before : List ℕ) (pos : Pos) → pos ≡ record { file = file; line = p.line; col = p.col } → p
    ≡ place_at before → pos ≡ pos_at file before
pos_is file p before pos is same = is ∙ rw same refl

-- while the bytes are fewer than 2^32 - 1, lines and columns fit 32 bits
pub place_room : (p : Place) (at n : ℕ) (bytes text : List ℕ) → p ≡ place_at (take at bytes) → at + n ≤ length bytes → length text ≡ n
    → length bytes < 4294967295 → (p.line + length text < 4294967296) × (p.col + length text < 4294967296)
place_room p at n bytes text is le len small =
    let line : p.line ≡ line_at (take at bytes) = ap (λ (q : Place). q.line) is in
    let col : p.col ≡ column_at (take at bytes) = ap (λ (q : Place). q.col) is in
    let l = line_small (take at bytes) in
    let k = column_small (take at bytes) in
    let t = length-take at bytes in
    (omega arith, omega arith)
