-- Steps of the loop over the pieces.
use Rattle.std.proofs.Common.{◌≡◌, ℕ, zero, suc, ◌+◌, ◌-◌, ◌<◌, ◌≤◌, List, [], ◌∷◌, ◌++◌, length, take, drop, refl, sym, ap, ◌∙◌, arith}
use Rattle.std.proofs.Common.{append_assoc, Option, Some, None, Result, Ok, Err}
use Rattle.std.proofs.lemmas.List.{append-nil, length-append, take-append-drop, take-take, drop-take, drop-drop}
use Rattle.sc_base.specs.declared.pos.Pos.{Pos}
use Rattle.sc_tree.specs.declared.token.Token.{Token}
use Rattle.sc_tree.specs.declared.token.Kind.{Kind}
use Rattle.sc_tree.specs.declared.piece.Piece.{Piece}
use Rattle.sc_tree.specs.Pieces.{piece}
use Rattle.sc_tree.specs.Places.{pos_at, is_fresh_at}
use Rattle.sc_tree.specs.Cut.{cut, behind, token_of, kind_of}
use Rattle.sc_lexer.specs.Answer.{Grow}
use Rattle.sc_lexer.specs.declared.place.Place.{Place}
use Rattle.sc_lexer.specs.Place.{place_at, passed}
use Rattle.sc_lexer.proofs.PlaceProofs.{passed_is}

-- the tokens so far, before those of the bytes that are left, are all
abbrev pub SoFar : List (List ℕ) → ℕ → ℕ → ℕ → List ℕ → List Token → Type 0
SoFar names file turns at bytes tokens =
    (more : List (List ℕ)) → behind tokens (cut (names ++ more) file (length bytes - turns) (take at bytes) (drop at bytes))
    ≡ cut (names ++ more) file (length bytes) [] bytes

behind_behind : (xs ys : List Token) (r : Result (List Token) Pos) → behind (xs ++ ys) r ≡ behind xs (behind ys r)
behind_behind xs ys (Ok ts) = ap (λ (zs : List Token). Ok zs) (append_assoc xs ys ts)
behind_behind xs ys (Err pos) = refl

behind_none : (r : Result (List Token) Pos) → behind [] r ≡ r
behind_none (Ok ts) = refl
behind_none (Err pos) = refl

pub so_far_start : (names : List (List ℕ)) (file : ℕ) (bytes : List ℕ) → SoFar names file 0 0 bytes []
so_far_start names file bytes more =
    let e : length bytes - 0 ≡ length bytes = omega arith in
    behind_none (cut (names ++ more) file (length bytes - 0) [] bytes) ∙ ap (λ (n : ℕ). cut (names ++ more) file n [] bytes) e

cut_on : (names : List (List ℕ)) (file n : ℕ) (before rest : List ℕ) (p : Piece) → 0 < length rest → piece (is_fresh_at before) rest ≡ Some p
    → cut names file (suc n) before rest ≡ behind (token_of (kind_of names p.form (take p.len rest)) (pos_at file before))
    (cut names file n (before ++ take p.len rest) (drop p.len rest))
cut_on names file n before [] p lt e = absurd (omega arith)
cut_on names file n before (c ∷ cs) p lt e = rw e refl

cut_stops : (names : List (List ℕ)) (file n : ℕ) (before rest : List ℕ) → 0 < length rest → piece (is_fresh_at before) rest ≡ None
    → cut names file (suc n) before rest ≡ Err (pos_at file before)
cut_stops names file n before [] lt e = absurd (omega arith)
cut_stops names file n before (c ∷ cs) lt e = rw e refl

cut_empty : (names : List (List ℕ)) (file n : ℕ) (before rest : List ℕ) → length rest ≡ 0 → cut names file n before rest ≡ Ok []
cut_empty names file zero before rest z = refl
cut_empty names file (suc n) before [] z = refl
cut_empty names file (suc n) before (c ∷ cs) z = absurd (omega arith)

pub front_more : (at n : ℕ) (bytes : List ℕ) → take at bytes ++ take n (drop at bytes) ≡ take (at + n) bytes
front_more at n bytes =
    let a : take at (take (at + n) bytes) ≡ take at bytes = take-take at (at + n) bytes (omega arith) in
    let b : drop at (take (at + n) bytes) ≡ take n (drop at bytes) = drop-take at n bytes in
    ap (λ (xs : List ℕ). xs ++ take n (drop at bytes)) (sym a) ∙ ap (λ (xs : List ℕ). take at (take (at + n) bytes) ++ xs) (sym b)
    ∙ take-append-drop at (take (at + n) bytes)

pub so_far_more : (names new : List (List ℕ)) (file i at : ℕ) (bytes rest text : List ℕ) (tokens longer : List Token) (p : Piece) (kind : Option Kind)
    → Grow 1 names new → rest ≡ drop at bytes → text ≡ take p.len rest
    → ((more : List (List ℕ)) → kind ≡ kind_of (new ++ more) p.form text)
    → i < length bytes → 0 < length rest → piece (is_fresh_at (take at bytes)) rest ≡ Some p
    → longer ≡ tokens ++ token_of kind (pos_at file (take at bytes))
    → SoFar names file i at bytes tokens → SoFar new file (i + 1) (at + p.len) bytes longer
so_far_more names new file i at bytes rest text tokens longer p kind grow is_rest is_text is_kind lt pos is_piece is_longer so_far more =
    let all = new ++ more in
    let e : length bytes - i ≡ suc (length bytes - (i + 1)) = omega arith in
    let names_are : new ++ more ≡ names ++ (grow.added ++ more) = ap (λ (xs : List (List ℕ)). xs ++ more) grow.grown ∙ append_assoc names grow.added more in
    let before = take at bytes in
    let next = cut (new ++ more) file (length bytes - (i + 1)) (take (at + p.len) bytes) (drop (at + p.len) bytes) in
    let place = pos_at file before in
    let fronts : before ++ take p.len rest ≡ take (at + p.len) bytes = ap (λ (xs : List ℕ). before ++ take p.len xs) is_rest ∙ front_more at p.len bytes in
    let backs : drop p.len rest ≡ drop (at + p.len) bytes = ap (λ (xs : List ℕ). drop p.len xs) is_rest ∙ drop-drop p.len at bytes in
    let on : cut (new ++ more) file (suc (length bytes - (i + 1))) before rest
    ≡ behind (token_of (kind_of (new ++ more) p.form (take p.len rest)) place)
    (cut (new ++ more) file (length bytes - (i + 1)) (before ++ take p.len rest) (drop p.len rest)) =
    cut_on (new ++ more) file (length bytes - (i + 1)) before rest p pos is_piece in
    let kinds : kind_of (new ++ more) p.form (take p.len rest) ≡ kind = ap (λ (xs : List ℕ). kind_of (new ++ more) p.form xs) (sym is_text)
    ∙ sym (is_kind more) in
    let here : cut (new ++ more) file (length bytes - i) before (drop at bytes) ≡ behind (token_of kind place) next =
    ap (λ (n : ℕ). cut (new ++ more) file n before (drop at bytes)) e
    ∙ ap (λ (xs : List ℕ). cut (new ++ more) file (suc (length bytes - (i + 1))) before xs) (sym is_rest)
    ∙ on
    ∙ ap (λ (k : Option Kind). behind (token_of k place) (cut (new ++ more) file (length bytes - (i + 1)) (before ++ take p.len rest) (drop p.len rest))) kinds
    ∙ ap (λ (xs : List ℕ). behind (token_of kind place) (cut (new ++ more) file (length bytes - (i + 1)) xs (drop p.len rest))) fronts
    ∙ ap (λ (xs : List ℕ). behind (token_of kind place) (cut (new ++ more) file (length bytes - (i + 1)) (take (at + p.len) bytes) xs)) backs in
    let was : behind tokens (cut (new ++ more) file (length bytes - i) before (drop at bytes))
    ≡ cut (new ++ more) file (length bytes) [] bytes = rw names_are (so_far (grow.added ++ more)) in
    ap (λ (ts : List Token). behind ts next) is_longer
    ∙ behind_behind tokens (token_of kind place) next
    ∙ ap (λ (r : Result (List Token) Pos). behind tokens r) (sym here)
    ∙ was

at_names : (names : List (List ℕ)) (file i at : ℕ) (bytes : List ℕ) (tokens : List Token) → SoFar names file i at bytes tokens
    → behind tokens (cut names file (length bytes - i) (take at bytes) (drop at bytes)) ≡ cut names file (length bytes) [] bytes
at_names names file i at bytes tokens so_far = rw append-nil at (so_far [])

pub so_far_ends : (names : List (List ℕ)) (file i at : ℕ) (bytes rest : List ℕ) (tokens : List Token) → rest ≡ drop at bytes → length rest
    ≡ 0 → SoFar names file i at bytes tokens → cut names file (length bytes) [] bytes ≡ Ok tokens
so_far_ends names file i at bytes rest tokens is z so_far =
    let e = cut_empty names file (length bytes - i) (take at bytes) (drop at bytes) (ap (λ (xs : List ℕ). length xs) (sym is) ∙ z) in
    sym (at_names names file i at bytes tokens so_far) ∙ ap (λ (r : Result (List Token) Pos). behind tokens r) e
    ∙ ap (λ (ts : List Token). Ok ts) (append-nil tokens)

pub so_far_out : (names : List (List ℕ)) (file i at : ℕ) (bytes : List ℕ) (tokens : List Token) → length bytes ≤ i
    → SoFar names file i at bytes tokens → cut names file (length bytes) [] bytes ≡ Ok tokens
so_far_out names file i at bytes tokens le so_far =
    let z : length bytes - i ≡ 0 = omega arith in
    sym (at_names names file i at bytes tokens so_far) ∙ ap (λ (n : ℕ). behind tokens (cut names file n (take at bytes) (drop at bytes))) z
    ∙ ap (λ (ts : List Token). Ok ts) (append-nil tokens)

pub so_far_stops : (names : List (List ℕ)) (file i at : ℕ) (bytes rest : List ℕ) (tokens : List Token) → rest ≡ drop at bytes
    → i < length bytes → 0 < length rest → piece (is_fresh_at (take at bytes)) rest ≡ None → SoFar names file i at bytes tokens
    → cut names file (length bytes) [] bytes ≡ Err (pos_at file (take at bytes))
so_far_stops names file i at bytes rest tokens is lt pos none so_far =
    let e : length bytes - i ≡ suc (length bytes - (i + 1)) = omega arith in
    let s = cut_stops names file (length bytes - (i + 1)) (take at bytes) rest pos none in
    sym (at_names names file i at bytes tokens so_far)
    ∙ ap (λ (n : ℕ). behind tokens (cut names file n (take at bytes) (drop at bytes))) e
    ∙ ap (λ (xs : List ℕ). behind tokens (cut names file (suc (length bytes - (i + 1))) (take at bytes) xs)) (sym is)
    ∙ ap (λ (r : Result (List Token) Pos). behind tokens r) s

-- the place behind a piece
pub past_is : (p r : Place) (at n : ℕ) (bytes rest text : List ℕ) → r ≡ passed p text → p ≡ place_at (take at bytes) → rest ≡ drop at bytes
    → text ≡ take n rest → r ≡ place_at (take (at + n) bytes)
past_is p r at n bytes rest text is same is_rest is_text =
    is ∙ ap (λ (q : Place). passed q text) same ∙ passed_is (take at bytes) text
    ∙ ap (λ (xs : List ℕ). place_at (take at bytes ++ xs)) (is_text ∙ ap (λ (xs : List ℕ). take n xs) is_rest)
    ∙ ap place_at (front_more at n bytes)

-- a piece makes one token at most
pub token_more : (tokens longer : List Token) (kind : Option Kind) (pos : Pos) (n : ℕ) → longer ≡ tokens ++ token_of kind pos
    → length tokens ≤ n → length longer ≤ n + 1
token_more tokens longer (Some k) pos n is le = let e = ap (λ (ts : List Token). length ts) is in let l =
    length-append tokens (token_of (Some k) pos) in omega arith
token_more tokens longer None pos n is le = let e = ap (λ (ts : List Token). length ts) is in let l = length-append tokens (token_of None pos) in omega arith
