-- Words are ASCII texts; and how lines and words are taken off one after the other.
use Rattle.std.proofs.Common.{◌≡◌, ◌<◌, ℕ, zero, suc, true, List, [], ◌∷◌, ◌++◌, length, refl, ap, ◌∙◌, arith}
use Rattle.std.specs.Prelude.{not, IsAscii, IsUtf8, ◌==◌, nat_le}
use Rattle.std.specs.List.{list_all}
use Rattle.std.proofs.lemmas.Bool.{and_parts, not-true}
use Rattle.std.proofs.lemmas.Bool.Decides.{nat_tests}
use Rattle.std.proofs.lemmas.Str.{IsUtf8-from_ascii}
use Rattle.fsm_spec.specs.Words.{is_word, is_word_byte, lines, words}

ascii_byte : (c : ℕ) → is_word_byte c ≡ true → c < 128
unfolding is_word_byte
ascii_byte c e = grind (arith, nat_tests)

word_bytes_below : (word : List ℕ) → list_all is_word_byte word ≡ true → IsAscii word
word_bytes_below [] e i = omega arith
word_bytes_below (c ∷ cs) e zero = ascii_byte c (and_parts (is_word_byte c) (list_all is_word_byte cs) e).0
word_bytes_below (c ∷ cs) e (suc i) = word_bytes_below cs (and_parts (is_word_byte c) (list_all is_word_byte cs) e).1 i

pub word_is_text : (word : List ℕ) → is_word word ≡ true → IsUtf8 word
unfolding is_word
word_is_text word e =
    let a = and_parts (nat_le 1 (length word)) _ e in
    let b = and_parts (nat_le (length word) 31) _ a.1 in
    let d = and_parts (list_all is_word_byte word) _ b.1 in
    IsUtf8-from_ascii word (word_bytes_below word d.0)

-- ---- lines

fed : (front rest : List ℕ) → list_all (λ b. not (b == 10)) front ≡ true → lines (front ++ 10 ∷ rest) ≡ front ∷ lines rest
fed [] rest e = refl
fed (b ∷ bs) rest e =
    let p = and_parts (not (b == 10)) (list_all (λ b. not (b == 10)) bs) e in
    rw (not-true (b == 10) p.0, fed bs rest p.1) refl

pub lines_fed : (bytes front rest : List ℕ) → bytes ≡ front ++ 10 ∷ rest → list_all (λ b. not (b == 10)) front ≡ true → lines bytes ≡ front ∷ lines rest
lines_fed bytes front rest w e = ap lines w ∙ fed front rest e

last_line : (front : List ℕ) → list_all (λ b. not (b == 10)) front ≡ true → 0 < length front → lines front ≡ front ∷ []
last_line [] e l = absurd (omega arith)
last_line (b ∷ []) e l =
    let p = and_parts (not (b == 10)) true e in
    rw (not-true (b == 10) p.0) refl
last_line (b ∷ c ∷ bs) e l =
    let p = and_parts (not (b == 10)) (list_all (λ b. not (b == 10)) (c ∷ bs)) e in
    rw (not-true (b == 10) p.0, last_line (c ∷ bs) p.1 (omega arith)) refl

pub lines_last : (bytes front : List ℕ) → bytes ≡ front → 0 < length bytes → list_all (λ b. not (b == 10)) front ≡ true → lines bytes ≡ front ∷ []
lines_last bytes front w l e = ap lines w ∙ last_line front e (rw (← w) l)

-- ---- words

spaced : (front rest : List ℕ) → list_all (λ b. not (b == 32)) front ≡ true → words (front ++ 32 ∷ rest) ≡ front ∷ words rest
spaced [] rest e = refl
spaced (b ∷ bs) rest e =
    let p = and_parts (not (b == 32)) (list_all (λ b. not (b == 32)) bs) e in
    rw (not-true (b == 32) p.0, spaced bs rest p.1) refl

last_word : (front : List ℕ) → list_all (λ b. not (b == 32)) front ≡ true → words front ≡ front ∷ []
last_word [] e = refl
last_word (b ∷ bs) e =
    let p = and_parts (not (b == 32)) (list_all (λ b. not (b == 32)) bs) e in
    rw (not-true (b == 32) p.0, last_word bs p.1) refl

pub words_cut : (line front rest : List ℕ) → line ≡ front ++ 32 ∷ rest → list_all (λ b. not (b == 32)) front ≡ true → words line ≡ front ∷ words rest
words_cut line front rest w e = ap words w ∙ spaced front rest e

pub words_last : (line front : List ℕ) → line ≡ front → list_all (λ b. not (b == 32)) front ≡ true → words line ≡ front ∷ []
words_last line front w e = ap words w ∙ last_word front e
