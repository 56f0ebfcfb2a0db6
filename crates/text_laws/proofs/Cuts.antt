-- Where a text can be cut: at the last byte that is of no word.
use Rattle.std.proofs.Common.{◌≡◌, ℕ, zero, suc, ◌+◌, ◌%◌, ◌^◌, ◌<◌, Bool, true, false, List, [], ◌∷◌, ◌++◌, drop, refl, sym, ap, subst, ◌∙◌, arith}
use Rattle.std.specs.Prelude.{nat_eq, if◌then◌else◌}
use Rattle.std.specs.Fmt.{decimal}
use Rattle.std.proofs.lemmas.Fmt.{decimal_by_steps}
use Rattle.std.proofs.lemmas.Bool.{eqb-true}
use Rattle.fsm_spec.specs.Words.{is_word_byte}
use Rattle.sc_world.specs.Paths.{begins_with_star, bracketed}
use Rattle.text_laws.specs.Ways.{IsWord}

pub clash : (b : Bool) → b ≡ true → b ≡ false → ⊥
clash true e f = absurd (cc)
clash false e f = absurd (cc)

pub tail_same : {c d : ℕ} {xs ys : List ℕ} → c ∷ xs ≡ d ∷ ys → xs ≡ ys
tail_same e = ap (λ l. drop 1 l) e

head_of : List ℕ → ℕ
head_of [] = 0
head_of (c ∷ cs) = c

pub head_same : {c d : ℕ} {xs ys : List ℕ} → c ∷ xs ≡ d ∷ ys → c ≡ d
unfolding head_of
head_same e = ap head_of e

-- a word has no byte that is of no word
pub word_cut : (xs f : List ℕ) (c : ℕ) → IsWord (xs ++ c ∷ f) → is_word_byte c ≡ true
word_cut [] f c h = h.0
word_cut (x ∷ xs) f c h = word_cut xs f c h.1

-- a text is cut in one way
pub cut_same : (xs ys f g : List ℕ) (c d : ℕ) → IsWord f → IsWord g → is_word_byte c ≡ false → is_word_byte d ≡ false
    → xs ++ c ∷ f ≡ ys ++ d ∷ g → (xs ≡ ys) × (c ≡ d) × (f ≡ g)
cut_same [] [] f g c d hf hg hc hd e = (refl, head_same e, tail_same e)
cut_same [] (y ∷ ys) f g c d hf hg hc hd e =
    absurd (clash (is_word_byte d) (word_cut ys g d (subst IsWord (tail_same e) hf)) hd)
cut_same (x ∷ xs) [] f g c d hf hg hc hd e =
    absurd (clash (is_word_byte c) (word_cut xs f c (subst IsWord (sym (tail_same e)) hg)) hc)
cut_same (x ∷ xs) (y ∷ ys) f g c d hf hg hc hd e =
    let rest = cut_same xs ys f g c d hf hg hc hd (tail_same e) in
    ((λ i. head_same e i ∷ rest.0 i), rest.1, rest.2)

pub append_assoc : (xs ys zs : List ℕ) → xs ++ (ys ++ zs) ≡ (xs ++ ys) ++ zs
append_assoc [] ys zs = refl
append_assoc (x ∷ xs) ys zs = λ i. x ∷ append_assoc xs ys zs i

pub word_append : (xs ys : List ℕ) → IsWord xs → IsWord ys → IsWord (xs ++ ys)
word_append [] ys hx hy = hy
word_append (x ∷ xs) ys hx hy = (hx.0, word_append xs ys hx.1 hy)

-- digits are bytes of words
digit_word : (d : ℕ) → d < 10 → is_word_byte (48 + d) ≡ true
unfolding is_word_byte
digit_word zero h = refl
digit_word (suc zero) h = refl
digit_word (suc (suc zero)) h = refl
digit_word (suc (suc (suc zero))) h = refl
digit_word (suc (suc (suc (suc zero)))) h = refl
digit_word (suc (suc (suc (suc (suc zero))))) h = refl
digit_word (suc (suc (suc (suc (suc (suc zero)))))) h = refl
digit_word (suc (suc (suc (suc (suc (suc (suc zero))))))) h = refl
digit_word (suc (suc (suc (suc (suc (suc (suc (suc zero)))))))) h = refl
digit_word (suc (suc (suc (suc (suc (suc (suc (suc (suc zero))))))))) h = refl
digit_word (suc (suc (suc (suc (suc (suc (suc (suc (suc (suc d)))))))))) h = absurd (omega (arith, h))

pub decimal_word : (n : ℕ) → n < 2 ^ 64 → IsWord (decimal n)
decimal_word n h =
    decimal_by_steps (λ m ds. IsWord ds) (λ m low. (digit_word m low, tt))
    (λ m ds low hd. word_append ds ((48 + m % 10) ∷ []) hd (digit_word (m % 10) (omega arith), tt)) n h

-- The last byte that is of no word; 0 where there is none.

abbrev pub mark_or : ℕ → ℕ → ℕ
mark_or zero m = m
mark_or (suc n) m = suc n

abbrev pub last_mark : List ℕ → ℕ
last_mark [] = 0
last_mark (c ∷ cs) = mark_or (last_mark cs) (if is_word_byte c then 0 else c)

pub last_word : (f : List ℕ) → IsWord f → last_mark f ≡ 0
last_word [] h = refl
last_word (c ∷ cs) h = λ i. mark_or (last_word cs h.1 i) (if h.0 i then 0 else c)

pub last_cut : (xs f : List ℕ) (c : ℕ) → IsWord f → is_word_byte (suc c) ≡ false → last_mark (xs ++ suc c ∷ f) ≡ suc c
last_cut [] f c hf hc = λ i. mark_or (last_word f hf i) (if hc i then 0 else suc c)
last_cut (x ∷ xs) f c hf hc = λ i. mark_or (last_cut xs f c hf hc i) (if is_word_byte x then 0 else x)

-- Brackets.

-- whether a text is of no bracket at its end
pub data Shape (t : List ℕ) : Type 0 where
  whole : IsWord t → Shape t
  parted : (xs f : List ℕ) (c : ℕ) → t ≡ xs ++ c ∷ f → is_word_byte c ≡ false → (c ≡ 41 → ⊥) → IsWord f → Shape t

no_word_40 : is_word_byte 40 ≡ false
unfolding is_word_byte
no_word_40 = refl

no_word_41 : is_word_byte 41 ≡ false
unfolding is_word_byte
no_word_41 = refl

bracket_clash : (t u : List ℕ) → Shape u → 40 ∷ (t ++ 41 ∷ []) ≡ u → ⊥
bracket_clash t u (whole h) e = clash (is_word_byte 40) (word_cut [] (t ++ 41 ∷ []) 40 (subst IsWord (sym e) h)) no_word_40
bracket_clash t u (parted xs f c is wordless bracket word) e =
    bracket (sym (cut_same (40 ∷ t) xs [] f 41 c tt word no_word_41 wordless (e ∙ is)).1)

bracket_by : (b d : Bool) (t u : List ℕ) → Shape t → Shape u
    → (if b then 40 ∷ (t ++ 41 ∷ []) else t) ≡ (if d then 40 ∷ (u ++ 41 ∷ []) else u) → t ≡ u
bracket_by true true t u ht hu e = (cut_same t u [] [] 41 41 tt tt no_word_41 no_word_41 (tail_same e)).0
bracket_by true false t u ht hu e = absurd (bracket_clash t u hu e)
bracket_by false true t u ht hu e = absurd (bracket_clash u t ht (sym e))
bracket_by false false t u ht hu e = e

pub bracket_same : (t u : List ℕ) → Shape t → Shape u → bracketed t ≡ bracketed u → t ≡ u
bracket_same t u ht hu e = bracket_by (begins_with_star t) (begins_with_star u) t u ht hu e

unstarred_by : (b : Bool) (h : ℕ) (t r : List ℕ) → nat_eq h 42 ≡ b
    → begins_with_star ((if b then 40 ∷ (h ∷ t ++ 41 ∷ []) else h ∷ t) ++ r) ≡ false
unstarred_by true h t r e = refl
unstarred_by false h t r e = e

pub unstarred : (t r : List ℕ) (c : ℕ) → nat_eq c 42 ≡ false → begins_with_star (bracketed t ++ c ∷ r) ≡ false
unstarred [] r c e = e
unstarred (h ∷ t) r c e = unstarred_by (nat_eq h 42) h t (c ∷ r) refl

eq_of : (m n : ℕ) (b : Bool) → nat_eq m n ≡ b → b ≡ true → m ≡ n
eq_of m n b e h = eqb-true m n (e ∙ h)

unstarred_word_by : (b : Bool) (c : ℕ) → nat_eq c 42 ≡ b → is_word_byte c ≡ true → nat_eq c 42 ≡ false
unfolding is_word_byte
unstarred_word_by true c e h = absurd (clash (is_word_byte 42) (subst (λ n. is_word_byte n ≡ true) (eq_of c 42 true e refl) h) refl)
unstarred_word_by false c e h = e

pub unstarred_word : (t : List ℕ) → IsWord t → begins_with_star t ≡ false
unstarred_word [] h = refl
unstarred_word (c ∷ cs) h = unstarred_word_by (nat_eq c 42) c refl h.0
