-- One turn of each loop over the bits of words: what is known of the bits so far, and one bit more.
use Rattle.std.proofs.Common.{◌≡◌, ℕ, ◌+◌, ◌-◌, ◌*◌, ◌^◌, ◌<◌, ◌≤◌, Bool, true, false, not, ◌&&◌, ◌||◌, if◌then◌else◌, nat_eq, nat_lt, List, [], ◌∷◌, ◌++◌, length, take, drop, reverse, get_or, refl, sym, ◌∙◌, ap, subst, arith, add-one, length-take, length-drop}
use Rattle.std.proofs.Math.Nat.{pow-suc}
use Rattle.std.proofs.lemmas.List.{drop_all}
use Rattle.std.proofs.lemmas.Bool.{eq-eqb, ne_eqb}
use Rattle.bit_net.specs.declared.nodes.Gate.{Gate}
use Rattle.bit_net.specs.Value.{xor}
use Rattle.bit_words.specs.declared.bits.Bitwise.{Bitwise}
use Rattle.bit_words.specs.declared.bits.Bitwise.TheVariants.{And, Or, Xor}
use Rattle.bit_words.specs.Parts.{bit_of, number_of}
use Rattle.bit_words.specs.Number.{bit, number}
use Rattle.bit_words.proofs.NumberLemmas.{number-nil, number-push, number-take, number-below, number-drop_more, number-reverse_push}
use Rattle.bit_words.proofs.StepLemmas.{sum_more, flip_more, select_more, equal_more, nonzero_more, less_more, and_more, or_more, xor_more}

-- 2 ^ (i + 1), in the order of the steps
double : (i : ℕ) → 2 ^ i * 2 ≡ 2 ^ (i + 1)
double i = sym (pow-suc 2 i) ∙ ap (λ k. 2 ^ k) (sym (add-one i))

-- the number of the first bits is below their power
front_below : (v : ℕ → Bool) (a : List Gate) (i : ℕ) → i ≤ length a → number v (take i a) < 2 ^ i
front_below v a i h = let wide : length (take i a) ≡ i = omega (arith, length-take i a) in subst (λ (k : ℕ). number v (take i a) < 2 ^ k) wide (number-below v (take i a))

back_below : (v : ℕ → Bool) (a : List Gate) (i : ℕ) → i ≤ length a → number v (drop (length a - i) a) < 2 ^ i
back_below v a i h = let wide : length (drop (length a - i) a) ≡ i = omega (arith, length-drop (length a - i) a) in subst (λ (k : ℕ). number v (drop (length a - i) a) < 2 ^ k) wide (number-below v (drop (length a - i) a))

no_back : (v : ℕ → Bool) (a : List Gate) → number v (drop (length a - 0) a) ≡ 0
no_back v a = ap (number v) (drop_all (length a - 0) a (omega arith)) ∙ number-nil v

pub sum_none : (v : ℕ → Bool) (a b bits : List Gate) (first : ℕ) → bits ≡ []
    → number v (reverse bits) + bit (v first) * 1 ≡ number v (drop (length a - 0) a) + number v (drop (length b - 0) b) + bit (v first)
sum_none v a b bits first e = rw e (omega (arith, number-nil v, no_back v a, no_back v b))

pub sum_step : (v : ℕ → Bool) (a b bits new : List Gate) (g d : Gate) (carry carry_in first i : ℕ) → length a ≡ length b → i < length a → length bits ≡ i → new ≡ bits ++ g ∷ []
    → number v (reverse bits) + bit (v carry_in) * 2 ^ i ≡ number v (drop (length a - i) a) + number v (drop (length b - i) b) + bit (v first)
    → bit (v g.at) + 2 * bit (v carry) ≡ bit (v (get_or a (length a - 1 - i) d).at) + bit (v (get_or b (length a - 1 - i) d).at) + bit (v carry_in)
    → number v (reverse new) + bit (v carry) * 2 ^ (i + 1) ≡ number v (drop (length a - (i + 1)) a) + number v (drop (length b - (i + 1)) b) + bit (v first)
sum_step v a b bits new g d carry carry_in first i same low wide e before here =
    let here' : bit (v g.at) + 2 * bit (v carry) ≡ bit (v (get_or a (length a - 1 - i) d).at) + bit (v (get_or b (length b - 1 - i) d).at) + bit (v carry_in) =
    subst (λ (k : ℕ). bit (v g.at) + 2 * bit (v carry) ≡ bit (v (get_or a (length a - 1 - i) d).at) + bit (v (get_or b (k - 1 - i) d).at) + bit (v carry_in)) same here in
    let low' : i < length b = omega arith in
    let built : number v (reverse new) ≡ bit (v g.at) * 2 ^ i + number v (reverse bits) = ap (λ (l : List Gate). number v (reverse l)) e ∙ number-reverse_push v bits g ∙ ap (λ k. bit (v g.at) * 2 ^ k + number v (reverse bits)) wide in
    rw (built, number-drop_more v a i d low, number-drop_more v b i d low', ← double i)
    (sum_more (2 ^ i) (bit (v g.at)) (number v (reverse bits)) (bit (v carry)) (bit (v (get_or a (length a - 1 - i) d).at)) (bit (v (get_or b (length b - 1 - i) d).at))
    (number v (drop (length a - i) a)) (number v (drop (length b - i) b)) (bit (v carry_in)) (bit (v first)) before here')

pub flip_none : (v : ℕ → Bool) (a bits : List Gate) (by : ℕ) → bits ≡ [] → number v bits ≡ (if v by then 1 - 1 - number v [] else number v [])
flip_none v a bits by e = ap (number v) e ∙ number-nil v ∙ cases (v by)
  where
    cases : (b : Bool) → 0 ≡ (if b then 1 - 1 - number v [] else number v [])
    cases true = omega arith
    cases false = sym (number-nil v)

pub flip_step : (v : ℕ → Bool) (a bits new : List Gate) (g d : Gate) (by i : ℕ) → i < length a → new ≡ bits ++ g ∷ []
    → number v bits ≡ (if v by then 2 ^ i - 1 - number v (take i a) else number v (take i a)) → v g.at ≡ xor (v (get_or a i d).at) (v by)
    → number v new ≡ (if v by then 2 ^ (i + 1) - 1 - number v (take (i + 1) a) else number v (take (i + 1) a))
flip_step v a bits new g d by i low e before here =
    ap (number v) e ∙ number-push v bits g ∙ rw (here, number-take v a i d low, ← double i)
    (flip_more (v by) (v (get_or a i d).at) (2 ^ i) (number v (take i a)) (number v bits) (front_below v a i (omega arith)) before)

pub select_none : (v : ℕ → Bool) (a b bits : List Gate) (c : ℕ) → bits ≡ [] → number v bits ≡ (if v c then number v [] else number v [])
select_none v a b bits c e = ap (number v) e ∙ cases (v c)
  where
    cases : (k : Bool) → number v [] ≡ (if k then number v [] else number v [])
    cases true = refl
    cases false = refl

pub select_step : (v : ℕ → Bool) (a b bits new : List Gate) (g d : Gate) (c i : ℕ) → length a ≡ length b → i < length a → new ≡ bits ++ g ∷ []
    → number v bits ≡ (if v c then number v (take i a) else number v (take i b)) → v g.at ≡ (if v c then v (get_or a i d).at else v (get_or b i d).at)
    → number v new ≡ (if v c then number v (take (i + 1) a) else number v (take (i + 1) b))
select_step v a b bits new g d c i same low e before here =
    let low' : i < length b = omega arith in
    ap (number v) e ∙ number-push v bits g ∙ rw (here, number-take v a i d low, number-take v b i d low')
    (select_more (v c) (v (get_or a i d).at) (v (get_or b i d).at) (number v (take i a)) (number v (take i b)) (number v bits) before)

pub equal_step : (v : ℕ → Bool) (a b : List Gate) (d : Gate) (all new i : ℕ) → length a ≡ length b → i < length a
    → v all ≡ nat_eq (number v (take i a)) (number v (take i b)) → v new ≡ (v all && not (xor (v (get_or a i d).at) (v (get_or b i d).at)))
    → v new ≡ nat_eq (number v (take (i + 1) a)) (number v (take (i + 1) b))
equal_step v a b d all new i same low before here =
    let low' : i < length b = omega arith in
    here ∙ rw (before, number-take v a i d low, number-take v b i d low')
    (equal_more (v (get_or a i d).at) (v (get_or b i d).at) (number v (take i a)) (number v (take i b)))

pub less_none : (v : ℕ → Bool) (a b : List Gate) (less : ℕ) → v less ≡ false → v less ≡ nat_lt (number v (drop (length a - 0) a)) (number v (drop (length b - 0) b))
less_none v a b less e = e ∙ rw (no_back v a, no_back v b) refl

pub less_step : (v : ℕ → Bool) (a b : List Gate) (d : Gate) (less new i : ℕ) → length a ≡ length b → i < length a
    → v less ≡ nat_lt (number v (drop (length a - i) a)) (number v (drop (length b - i) b))
    → v new ≡ (if xor (v (get_or a (length a - 1 - i) d).at) (v (get_or b (length a - 1 - i) d).at) then v (get_or b (length a - 1 - i) d).at else v less)
    → v new ≡ nat_lt (number v (drop (length a - (i + 1)) a)) (number v (drop (length b - (i + 1)) b))
less_step v a b d less new i same low before here =
    let low' : i < length b = omega arith in
    let here' : v new ≡ (if xor (v (get_or a (length a - 1 - i) d).at) (v (get_or b (length b - 1 - i) d).at) then v (get_or b (length b - 1 - i) d).at else v less) =
    subst (λ (k : ℕ). v new ≡ (if xor (v (get_or a (length a - 1 - i) d).at) (v (get_or b (k - 1 - i) d).at) then v (get_or b (k - 1 - i) d).at else v less)) same here in
    here' ∙ rw (before, number-drop_more v a i d low, number-drop_more v b i d low')
    (less_more (v (get_or a (length a - 1 - i) d).at) (v (get_or b (length b - 1 - i) d).at) (2 ^ i) (number v (drop (length a - i) a)) (number v (drop (length b - i) b))
    (back_below v a i (omega arith)) (back_below v b i (omega arith)))

pub equal_none : (v : ℕ → Bool) (all : ℕ) → v all ≡ true → v all ≡ nat_eq (number v []) (number v [])
equal_none v all e = e ∙ sym (eq-eqb (number v []) (number v []) refl)

pub combine_none : (v : ℕ → Bool) (operator : Bitwise) (bits : List Gate) → bits ≡ [] → number v bits ≡ number_of operator (number v []) (number v [])
combine_none v operator bits e = ap (number v) e ∙ number-nil v ∙ rw (number-nil v) (none operator)
  where
    none : (o : Bitwise) → 0 ≡ number_of o 0 0
    none And = refl
    none Or = refl
    none Xor = refl

combine_more : (operator : Bitwise) (x y : Bool) (m n : ℕ) → 2 * number_of operator m n + bit (bit_of operator x y) ≡ number_of operator (2 * m + bit x) (2 * n + bit y)
combine_more And x y m n = and_more x y m n
combine_more Or x y m n = or_more x y m n
combine_more Xor x y m n = xor_more x y m n

pub combine_step : (v : ℕ → Bool) (operator : Bitwise) (a b bits new : List Gate) (g d : Gate) (i : ℕ) → length a ≡ length b → i < length a → new ≡ bits ++ g ∷ []
    → number v bits ≡ number_of operator (number v (take i a)) (number v (take i b)) → v g.at ≡ bit_of operator (v (get_or a i d).at) (v (get_or b i d).at)
    → number v new ≡ number_of operator (number v (take (i + 1) a)) (number v (take (i + 1) b))
combine_step v operator a b bits new g d i same low e before here =
    let low' : i < length b = omega arith in
    ap (number v) e ∙ number-push v bits g ∙ rw (here, before, number-take v a i d low, number-take v b i d low')
    (combine_more operator (v (get_or a i d).at) (v (get_or b i d).at) (number v (take i a)) (number v (take i b)))

pub nonzero_none : (v : ℕ → Bool) (some : ℕ) → v some ≡ false → v some ≡ not (nat_eq (number v []) 0)
nonzero_none v some e = e ∙ ap not (sym (eq-eqb (number v []) 0 (number-nil v)))

pub nonzero_step : (v : ℕ → Bool) (a : List Gate) (d : Gate) (some new i : ℕ) → i < length a
    → v some ≡ not (nat_eq (number v (take i a)) 0) → v new ≡ (v some || v (get_or a i d).at)
    → v new ≡ not (nat_eq (number v (take (i + 1) a)) 0)
nonzero_step v a d some new i low before here =
    here ∙ rw (before, number-take v a i d low) (nonzero_more (v (get_or a i d).at) (number v (take i a)))
