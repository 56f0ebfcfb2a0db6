-- Steps of the loops over literals and comments.
use Rattle.std.proofs.Common.{◌≡◌, ℕ, zero, suc, ◌+◌, ◌-◌, ◌<◌, ◌≤◌, List, [], ◌∷◌, length, drop, get_or, refl, sym, ap, ◌∙◌, arith, Option, Some, None, false}
use Rattle.std.specs.Prelude.{option_map, codes}
use Rattle.std.proofs.lemmas.Bool.{cond-false}
use Rattle.std.proofs.lemmas.List.{drop_more, drop_all, drop-drop, length-drop}
use Rattle.sc_tree.specs.Tables.{begins}
use Rattle.sc_tree.specs.Literals.{comment_len, spelled_byte, spelled_bytes, simple_escape, escape}
use Rattle.sc_lexer.proofs.Steps.{count_more}

comment_on : (c : ℕ) (cs : List ℕ) → begins (codes "*/") (c ∷ cs) ≡ false → comment_len (c ∷ cs) ≡ option_map suc (comment_len cs)
comment_on c cs none = cond-false (begins (codes "*/") (c ∷ cs)) (Some 2) (option_map suc (comment_len cs)) none

-- one byte further, where no `*/` stands
pub comment_more : (bytes : List ℕ) (i : ℕ) → i < length bytes → begins (codes "*/") (drop i bytes) ≡ false
    → option_map (λ n. i + n) (comment_len (drop i bytes)) ≡ comment_len bytes
    → option_map (λ n. (i + 1) + n) (comment_len (drop (i + 1) bytes)) ≡ comment_len bytes
comment_more bytes i lt none whole =
    let e : drop i bytes ≡ get_or bytes i 0 ∷ drop (i + 1) bytes = drop_more bytes i 0 lt in
    let here : begins (codes "*/") (get_or bytes i 0 ∷ drop (i + 1) bytes) ≡ false = ap (λ (xs : List ℕ). begins (codes "*/") xs) (sym e) ∙ none in
    let on : comment_len (drop i bytes) ≡ option_map suc (comment_len (drop (i + 1) bytes)) = ap comment_len e
    ∙ comment_on (get_or bytes i 0) (drop (i + 1) bytes) here in
    count_more i (comment_len (drop (i + 1) bytes)) ∙ ap (λ (o : Option ℕ). option_map (λ n. i + n) o) (sym on) ∙ whole

-- one byte that is spelled counts one
spelled_on : (count m : ℕ) (rest : List ℕ) (b : ℕ × Option ℕ) → 0 < length rest → spelled_byte rest ≡ Some b
    → option_map (λ n. (count + 1) + n) (spelled_bytes m (drop b.0 rest)) ≡ option_map (λ n. count + n) (spelled_bytes (suc m) rest)
spelled_on count m [] b pos is = absurd (omega arith)
spelled_on count m (c ∷ cs) b pos is = rw is (count_more count (spelled_bytes m (drop b.0 (c ∷ cs))))

pub spelled_more : (whole : Option ℕ) (count at i : ℕ) (text rest : List ℕ) (b : ℕ × Option ℕ) → i < length text → at ≤ length text
    → (at ≡ length text → ⊥) → rest ≡ drop at text → spelled_byte rest ≡ Some b
    → option_map (λ k. count + k) (spelled_bytes (length text - i) (drop at text)) ≡ whole
    → option_map (λ k. (count + 1) + k) (spelled_bytes (length text - (i + 1)) (drop (at + b.0) text)) ≡ whole
spelled_more whole count at i text rest b lt le ne is spelled so_far =
    let l = length-drop at text in
    let e : length text - i ≡ suc (length text - (i + 1)) = omega arith in
    ap (λ (xs : List ℕ). option_map (λ k. (count + 1) + k) (spelled_bytes (length text - (i + 1)) xs)) (sym (drop-drop b.0 at text))
    ∙ spelled_on count (length text - (i + 1)) (drop at text) b (omega arith) (ap spelled_byte (sym is) ∙ spelled)
    ∙ ap (λ (m : ℕ). option_map (λ k. count + k) (spelled_bytes m (drop at text))) (sym e)
    ∙ so_far

-- at the end the bytes so far are all
pub spelled_end : (whole : Option ℕ) (count at m : ℕ) (text : List ℕ) → length text ≤ at
    → option_map (λ k. count + k) (spelled_bytes m (drop at text)) ≡ whole → Some count ≡ whole
spelled_end whole count at m text le so_far =
    let e : drop at text ≡ [] = drop_all at text le in
    let none : (n : ℕ) → spelled_bytes n [] ≡ Some 0 = spelled_none in
    let z : count + 0 ≡ count = omega arith in
    ap (λ (k : ℕ). Some k) (sym z) ∙ ap (λ (o : Option ℕ). option_map (λ k. count + k) o) (sym (none m))
    ∙ ap (λ (xs : List ℕ). option_map (λ k. count + k) (spelled_bytes m xs)) (sym e) ∙ so_far
  where
    spelled_none : (n : ℕ) → spelled_bytes n [] ≡ Some 0
    spelled_none zero = refl
    spelled_none (suc n) = refl

-- a byte that is spelled in no way makes the text spell none
pub spelled_stop : (whole : Option ℕ) (count at i : ℕ) (text rest : List ℕ) → i < length text → at ≤ length text → (at ≡ length text → ⊥)
    → rest ≡ drop at text → spelled_byte rest ≡ None → option_map (λ k. count + k) (spelled_bytes (length text - i) (drop at text)) ≡ whole
    → None ≡ whole
spelled_stop whole count at i text rest lt le ne is none so_far =
    let l = length-drop at text in
    let e : length text - i ≡ suc (length text - (i + 1)) = omega arith in
    let stops : spelled_bytes (suc (length text - (i + 1))) (drop at text) ≡ None =
    stop_at (length text - (i + 1)) (drop at text) (omega arith) (ap spelled_byte (sym is) ∙ none) in
    ap (λ (o : Option ℕ). option_map (λ k. count + k) o) (sym stops)
    ∙ ap (λ (m : ℕ). option_map (λ k. count + k) (spelled_bytes m (drop at text))) (sym e) ∙ so_far
  where
    stop_at : (m : ℕ) (xs : List ℕ) → 0 < length xs → spelled_byte xs ≡ None → spelled_bytes (suc m) xs ≡ None
    stop_at m [] pos none = absurd (omega arith)
    stop_at m (x ∷ xs) pos none = rw none refl

-- no escape is made of no bytes
pub escape_of_none : (bytes : List ℕ) → length bytes < 1 → None ≡ escape bytes
unfolding escape simple_escape
escape_of_none [] h = refl
escape_of_none (c ∷ cs) h = absurd (omega arith)
