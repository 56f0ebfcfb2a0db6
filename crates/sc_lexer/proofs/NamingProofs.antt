-- Steps of the loop over the pieces, for the names.
use Rattle.std.proofs.Common.{◌≡◌, ℕ, zero, suc, ◌+◌, ◌-◌, ◌<◌, ◌≤◌, List, [], ◌∷◌, ◌++◌, length, take, drop, refl, sym, ap, ◌∙◌, arith, Option, Some, None}
use Rattle.std.proofs.lemmas.List.{drop-drop}
use Rattle.sc_tree.specs.declared.piece.Piece.{Piece}
use Rattle.sc_tree.specs.Pieces.{piece}
use Rattle.sc_tree.specs.Places.{is_fresh_at}
use Rattle.sc_lexer.specs.Naming.{with_piece, with_words}
use Rattle.sc_lexer.proofs.ScanProofs.{front_more}

-- the names so far, with those of the bytes that are left, are all
abbrev pub NamedSoFar : (old names : List (List ℕ)) → ℕ → ℕ → List ℕ → Type 0
NamedSoFar old names turns at bytes =
    with_words (length bytes - turns) names (take at bytes) (drop at bytes) ≡ with_words (length bytes) old [] bytes

words_on : (n : ℕ) (names : List (List ℕ)) (before rest : List ℕ) (p : Piece) → 0 < length rest → piece (is_fresh_at before) rest ≡ Some p
    → with_words (suc n) names before rest
    ≡ with_words n (with_piece p.form names (take p.len rest)) (before ++ take p.len rest) (drop p.len rest)
words_on n names before [] p lt e = absurd (omega arith)
words_on n names before (c ∷ cs) p lt e = rw e refl

words_none : (n : ℕ) (names : List (List ℕ)) (before rest : List ℕ) → length rest ≡ 0 → with_words n names before rest ≡ names
words_none zero names before rest z = refl
words_none (suc n) names before [] z = refl
words_none (suc n) names before (c ∷ cs) z = absurd (omega arith)

pub named_more : (old names new : List (List ℕ)) (i at : ℕ) (bytes rest text : List ℕ) (p : Piece) → rest ≡ drop at bytes
    → text ≡ take p.len rest → new ≡ with_piece p.form names text → i < length bytes → 0 < length rest
    → piece (is_fresh_at (take at bytes)) rest ≡ Some p → NamedSoFar old names i at bytes → NamedSoFar old new (i + 1) (at + p.len) bytes
named_more old names new i at bytes rest text p is_rest is_text is_new lt pos is_piece so_far =
    let n = length bytes - (i + 1) in
    let before = take at bytes in
    let e : length bytes - i ≡ suc n = omega arith in
    let fronts : before ++ take p.len rest ≡ take (at + p.len) bytes = ap (λ (xs : List ℕ). before ++ take p.len xs) is_rest ∙ front_more at p.len bytes in
    let backs : drop p.len rest ≡ drop (at + p.len) bytes = ap (λ (xs : List ℕ). drop p.len xs) is_rest ∙ drop-drop p.len at bytes in
    let same : with_piece p.form names (take p.len rest) ≡ new = ap (λ (xs : List ℕ). with_piece p.form names xs) (sym is_text) ∙ sym is_new in
    let on : with_words (suc n) names before rest ≡ with_words n new (take (at + p.len) bytes) (drop (at + p.len) bytes) =
    words_on n names before rest p pos is_piece
    ∙ ap (λ (xs : List (List ℕ)). with_words n xs (before ++ take p.len rest) (drop p.len rest)) same
    ∙ ap (λ (xs : List ℕ). with_words n new xs (drop p.len rest)) fronts
    ∙ ap (λ (xs : List ℕ). with_words n new (take (at + p.len) bytes) xs) backs in
    let here : with_words (length bytes - i) names before (drop at bytes) ≡ with_words n new (take (at + p.len) bytes) (drop (at + p.len) bytes) =
    ap (λ (m : ℕ). with_words m names before (drop at bytes)) e
    ∙ ap (λ (xs : List ℕ). with_words (suc n) names before xs) (sym is_rest) ∙ on in
    sym here ∙ so_far

pub named_ends : (old names : List (List ℕ)) (i at : ℕ) (bytes : List ℕ) → length (drop at bytes) ≡ 0 → NamedSoFar old names i at bytes
    → names ≡ with_words (length bytes) old [] bytes
named_ends old names i at bytes z so_far = sym (words_none (length bytes - i) names (take at bytes) (drop at bytes) z) ∙ so_far

pub named_out : (old names : List (List ℕ)) (i at : ℕ) (bytes : List ℕ) → length bytes ≤ i → NamedSoFar old names i at bytes
    → names ≡ with_words (length bytes) old [] bytes
named_out old names i at bytes le so_far =
    let z : length bytes - i ≡ 0 = omega arith in
    sym (ap (λ (n : ℕ). with_words n names (take at bytes) (drop at bytes)) z) ∙ so_far
