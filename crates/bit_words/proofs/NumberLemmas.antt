-- The number and the greatest gate of a word that is put together, cut or turned round.
use Rattle.std.proofs.Common.{◌≡◌, ℕ, zero, suc, ◌+◌, ◌-◌, ◌*◌, ◌/◌, ◌%◌, ◌^◌, ◌<◌, ◌≤◌, max, Bool, true, false, List, [], ◌∷◌, ◌++◌, length, take, drop, get_or, replicate, if◌then◌else◌, reverse, refl, sym, ◌∙◌, ap, subst, arith, length-append, length-drop, mul_assoc}
use Rattle.std.proofs.Math.Nat.{pow-suc}
use Rattle.std.proofs.Math.Seq.{drop-cons}
use Rattle.std.proofs.lemmas.List.{take-append-drop, reverse-append, length-reverse, length-replicate}
use Rattle.std.proofs.lemmas.Nat.{pow_pos, pow-add, mod-mul-add, div-mul-add}
use Rattle.std.proofs.lemmas.List.{take_more}
use Rattle.bit_net.specs.declared.nodes.Gate.{Gate}
use Rattle.bit_words.specs.Number.{bit, number, top}

pub bit-below : (b : Bool) → bit b < 2
bit-below true = omega arith
bit-below false = omega arith

pub number-nil : (v : ℕ → Bool) → number v [] ≡ 0
unfolding number
number-nil v = refl

pub number-cons : (v : ℕ → Bool) (g : Gate) (gs : List Gate) → number v (g ∷ gs) ≡ bit (v g.at) * 2 ^ length gs + number v gs
unfolding number
number-cons v g gs = refl

pub number-append : (v : ℕ → Bool) (xs ys : List Gate) → number v (xs ++ ys) ≡ number v xs * 2 ^ length ys + number v ys
unfolding number
number-append v [] ys = omega arith
number-append v (x ∷ xs) ys =
    let split : 2 ^ length (xs ++ ys) ≡ 2 ^ length xs * 2 ^ length ys = ap (λ n. 2 ^ n) (length-append xs ys) ∙ pow-add 2 (length xs) (length ys) in
    let rest : number v (xs ++ ys) ≡ number v xs * 2 ^ length ys + number v ys = number-append v xs ys in
    rw (split, rest) (omega (arith, mul_assoc (bit (v x.at)) (2 ^ length xs) (2 ^ length ys)))

pub number-push : (v : ℕ → Bool) (gs : List Gate) (g : Gate) → number v (gs ++ g ∷ []) ≡ 2 * number v gs + bit (v g.at)
number-push v gs g = number-append v gs (g ∷ []) ∙ rw (number-cons v g [], number-nil v) (omega arith)

pub number-below : (v : ℕ → Bool) (gs : List Gate) → number v gs < 2 ^ length gs
unfolding number
number-below v [] = omega arith
number-below v (g ∷ gs) = by (v g.at) (number-below v gs)
  where
    by : (b : Bool) → number v gs < 2 ^ length gs → bit b * 2 ^ length gs + number v gs < 2 ^ suc (length gs)
    by true h = rw (pow-suc 2 (length gs)) (omega arith)
    by false h = rw (pow-suc 2 (length gs)) (omega arith)

-- one more bit from the front
pub number-take : (v : ℕ → Bool) (gs : List Gate) (i : ℕ) (d : Gate) → i < length gs → number v (take (i + 1) gs) ≡ 2 * number v (take i gs) + bit (v (get_or gs i d).at)
number-take v gs i d low = ap (number v) (take_more gs i d low) ∙ number-push v (take i gs) (get_or gs i d)

-- one more bit from the back, of a word and of a word that is built from its low end
pub number-drop_more : (v : ℕ → Bool) (gs : List Gate) (i : ℕ) (d : Gate) → i < length gs
    → number v (drop (length gs - (i + 1)) gs) ≡ bit (v (get_or gs (length gs - 1 - i) d).at) * 2 ^ i + number v (drop (length gs - i) gs)
number-drop_more v gs i d low =
    let at : length gs - 1 - i < length gs = omega arith in
    let next : suc (length gs - 1 - i) ≡ length gs - i = omega arith in
    let here : length gs - (i + 1) ≡ length gs - 1 - i = omega arith in
    let wide : length (drop (length gs - i) gs) ≡ i = omega (arith, length-drop (length gs - i) gs) in
    rw here (rw (drop-cons gs (length gs - 1 - i) d, next) (number-cons v (get_or gs (length gs - 1 - i) d) (drop (length gs - i) gs) ∙ rw wide refl))

pub number-reverse_push : (v : ℕ → Bool) (gs : List Gate) (g : Gate) → number v (reverse (gs ++ g ∷ [])) ≡ bit (v g.at) * 2 ^ length gs + number v (reverse gs)
number-reverse_push v gs g = rw (reverse-append gs (g ∷ [])) (number-cons v g (reverse gs) ∙ rw (length-reverse gs) refl)

pub top-nil : top [] ≡ 0
unfolding top
top-nil = refl

pub top-cons : (g : Gate) (gs : List Gate) → top (g ∷ gs) ≡ max (g.at + 1) (top gs)
unfolding top
top-cons g gs = refl

pub top-append : (xs ys : List Gate) → top (xs ++ ys) ≡ max (top xs) (top ys)
unfolding top
top-append [] ys = omega arith
top-append (x ∷ xs) ys = omega (arith, top-append xs ys)

pub top-push : (gs : List Gate) (g : Gate) → top (gs ++ g ∷ []) ≡ max (top gs) (g.at + 1)
top-push gs g = omega (arith, top-append gs (g ∷ []), top-cons g [], top-nil)

pub top-reverse : (gs : List Gate) → top (reverse gs) ≡ top gs
top-reverse [] = refl
top-reverse (g ∷ gs) = ap top (reverse-append (g ∷ []) gs) ∙ top-append (reverse gs) (g ∷ []) ∙ omega (arith, top-reverse gs, top-cons g gs, top-cons g [], top-nil)

-- each gate of a word is below its top
pub gate_below_top : (gs : List Gate) (i : ℕ) (d : Gate) → i < length gs → (get_or gs i d).at < top gs
unfolding top
gate_below_top [] i d low = absurd (omega arith)
gate_below_top (g ∷ gs) zero d low = omega arith
gate_below_top (g ∷ gs) (suc i) d low = omega (arith, gate_below_top gs i d (omega arith))

pub top-take : (gs : List Gate) (k : ℕ) → top (take k gs) ≤ top gs
top-take gs k = omega (arith, top-append (take k gs) (drop k gs), ap top (take-append-drop k gs))

pub top-drop : (gs : List Gate) (k : ℕ) → top (drop k gs) ≤ top gs
top-drop gs k = omega (arith, top-append (take k gs) (drop k gs), ap top (take-append-drop k gs))

-- a word without its high bits
pub top-tail : (gs : List Gate) (j k : ℕ) → top (take k (drop j gs)) ≤ top gs
top-tail gs j k = omega (arith, top-take (drop j gs) k, top-drop gs j)

-- the low bits of a word are a remainder, the high bits a quotient
cut : (v : ℕ → Bool) (gs : List Gate) (k : ℕ) → k ≤ length gs → number v gs ≡ number v (take k gs) * 2 ^ (length gs - k) + number v (drop k gs)
cut v gs k h =
    let low : length (drop k gs) ≡ length gs - k = length-drop k gs in
    ap (number v) (sym (take-append-drop k gs)) ∙ number-append v (take k gs) (drop k gs) ∙ rw low refl

drop_below : (v : ℕ → Bool) (gs : List Gate) (k : ℕ) → number v (drop k gs) < 2 ^ (length gs - k)
drop_below v gs k = subst (λ (n : ℕ). number v (drop k gs) < 2 ^ n) (length-drop k gs) (number-below v (drop k gs))

pub number-drop : (v : ℕ → Bool) (gs : List Gate) (k : ℕ) → k ≤ length gs → number v (drop k gs) ≡ number v gs % 2 ^ (length gs - k)
number-drop v gs k h = sym (ap (λ n. n % 2 ^ (length gs - k)) (cut v gs k h) ∙ mod-mul-add (number v (take k gs)) (2 ^ (length gs - k)) (number v (drop k gs)) (drop_below v gs k))

pub number-take_whole : (v : ℕ → Bool) (gs : List Gate) (k : ℕ) → k ≤ length gs → number v (take k gs) ≡ number v gs / 2 ^ (length gs - k)
number-take_whole v gs k h = sym (ap (λ n. n / 2 ^ (length gs - k)) (cut v gs k h) ∙ div-mul-add (number v (take k gs)) (2 ^ (length gs - k)) (number v (drop k gs)) (drop_below v gs k))

-- a word of copies of one gate
pub number-replicate : (v : ℕ → Bool) (k : ℕ) (g : Gate) → number v (replicate k g) ≡ (if v g.at then 2 ^ k - 1 else 0)
number-replicate v zero g = number-nil v ∙ by (v g.at)
  where
    by : (b : Bool) → 0 ≡ (if b then 2 ^ 0 - 1 else 0)
    by true = refl
    by false = refl
number-replicate v (suc k) g = number-cons v g (replicate k g) ∙ rw (length-replicate k g, number-replicate v k g) (by (v g.at))
  where
    by : (b : Bool) → bit b * 2 ^ k + (if b then 2 ^ k - 1 else 0) ≡ (if b then 2 ^ suc k - 1 else 0)
    by true = omega (arith, pow-suc 2 k, pow_pos k)
    by false = omega arith

pub top-replicate : (k n : ℕ) (g : Gate) → g.at < n → top (replicate k g) ≤ n
top-replicate zero n g h = omega (arith, top-nil)
top-replicate (suc k) n g h = omega (arith, top-cons g (replicate k g), top-replicate k n g h)

-- what keeps the gates of a word within the net
pub ruleset bound_laws = (top-nil, top-push, top-reverse, gate_below_top, top-take, top-drop, top-tail, top-append, top-cons, top-replicate, length-replicate)

pub ruleset number_replicate = (number-replicate)
