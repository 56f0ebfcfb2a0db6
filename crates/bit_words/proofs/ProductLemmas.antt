-- One turn of a product and of a division.
use Rattle.std.proofs.Common.{◌≡◌, ℕ, suc, ◌+◌, ◌-◌, ◌*◌, ◌%◌, ◌^◌, ◌<◌, ◌≤◌, Bool, true, false, not, ◌&&◌, if◌then◌else◌, nat_eq, List, [], ◌∷◌, ◌++◌, length, take, drop, get_or, refl, sym, ◌∙◌, ap, subst, arith, add-one, length-take, length-drop, length-append, ◌⊎◌, inl, inr}
use Rattle.std.specs.Prelude.{nat_le}
use Rattle.std.proofs.Math.Nat.{pow-suc, mod-one, zero-mod, zero-div}
use Rattle.std.proofs.lemmas.Nat.{pow_pos}
use Rattle.std.proofs.lemmas.Bool.{leb-true, and_parts, cases_eq, eq-eqb, ne_eqb}
use Rattle.bit_net.specs.declared.nodes.Gate.{Gate}
use Rattle.bit_net.specs.declared.nodes.Node.{Node}
use Rattle.bit_net.specs.Runs.{Runs, Grown}
use Rattle.bit_words.specs.Number.{bit, number, quotient, remainder, difference}
use Rattle.bit_words.specs.Parts.{IsDifference, IsDivideStep}
use Rattle.bit_words.specs.Spells.{Spells}
use Rattle.bit_words.proofs.NumberLemmas.{number-nil, number-cons, number-push, number-take, number-below, number-drop}
use Rattle.bit_words.proofs.StepLemmas.{mul_more, divide_more, difference_exact}
use Rattle.bit_words.proofs.SpellLemmas.{difference_value}

double : (i : ℕ) → 2 ^ i * 2 ≡ 2 ^ (i + 1)
double i = sym (pow-suc 2 i) ∙ ap (λ k. 2 ^ k) (sym (add-one i))

pub product_none : (v : ℕ → Bool) (bits : List Gate) (n : ℕ) → bits ≡ [] → number v bits ≡ (n * number v []) % 1
product_none v bits n e = ap (number v) e ∙ number-nil v ∙ sym (mod-one (n * number v []))

pub product_step : (v : ℕ → Bool) (a b product pushed pushed' part next : List Gate) (low_gate d : Gate) (i : ℕ) → length a ≡ length b → i < length a → length product ≡ i → pushed ≡ product ++ low_gate ∷ [] → pushed' ≡ pushed
    → part ≡ drop (length a - 1 - i) a → number v product ≡ (number v a * number v (take i b)) % 2 ^ i → v low_gate.at ≡ false
    → number v next ≡ (number v pushed' + (if v (get_or b i d).at then number v part else 0)) % 2 ^ length pushed'
    → number v next ≡ (number v a * number v (take (i + 1) b)) % 2 ^ (i + 1)
product_step v a b product pushed pushed' part next low_gate d i same low wide e e' f before off here =
    let low' : i < length b = omega arith in
    let longer : length pushed' ≡ i + 1 = ap length (e' ∙ e) ∙ length-append product (low_gate ∷ []) ∙ (let more : length product + 1 ≡ i + 1 = omega arith in more) in
    let doubled : number v pushed' ≡ 2 * number v product = ap (number v) (e' ∙ e) ∙ number-push v product low_gate ∙ (let none : bit (v low_gate.at) ≡ 0 = ap bit off in let sum : 2 * number v product + bit (v low_gate.at) ≡ 2 * number v product = omega arith in sum) in
    let places : length a - (length a - 1 - i) ≡ i + 1 = omega arith in
    let cut : number v part ≡ number v a % 2 ^ (i + 1) = ap (number v) f ∙ number-drop v a (length a - 1 - i) (omega arith) ∙ ap (λ k. number v a % 2 ^ k) places in
    let cut' : number v part ≡ number v a % (2 ^ i * 2) = cut ∙ ap (λ k. number v a % k) (sym (double i)) in
    here ∙ rw (doubled, longer, ← double i) (mul_more (v (get_or b i d).at) (2 ^ i) (number v a) (number v (take i b)) (number v product) (number v part) (pow_pos i) before cut')
    ∙ ap (λ n. (number v a * n) % (2 ^ i * 2)) (sym (number-take v b i d low')) ∙ ap (λ k. (number v a * number v (take (i + 1) b)) % k) (double i)

-- a word without its high bit, where that cannot be seen
drop_high : (v : ℕ → Bool) (word : List Gate) (w : ℕ) → length word ≡ w + 1 → number v (drop 1 word) ≡ number v word % 2 ^ w
drop_high v word w e =
    let places : length word - 1 ≡ w = omega arith in
    number-drop v word 1 (omega arith) ∙ ap (λ k. number v word % 2 ^ k) places

-- what is kept of the difference, or of the rest
kept_is_exact : (goes divides : Bool) (p q kept kept_longer gone n d : ℕ) → goes ≡ (nat_le d n && divides) → kept ≡ gone % q → kept_longer ≡ n % q → gone ≡ (p + n - d) % p → gone < p → n < p
    → (if goes then kept else kept_longer) ≡ (if goes then n - d else n) % q
kept_is_exact false divides p q kept kept_longer gone n d e k l g low low' = l
kept_is_exact true divides p q kept kept_longer gone n d e k l g low low' =
    let goes_in : d ≤ n = leb-true d n (and_parts (nat_le d n) divides (sym e)).0 in
    k ∙ ap (λ m. m % q) (difference_exact p gone n d low low' goes_in g)

-- one step of a division, from the difference of the rest with one bit more and the divisor
pub DivideStep-is : (n1 n2 ns : List Node) (rest divisor longer longer' wide wide' gone kept kept_longer left : List Gate) (next none : Gate) (carry goes divides : ℕ) → length rest ≡ length divisor
    → longer ≡ rest ++ next ∷ [] → longer' ≡ longer → wide ≡ (none ∷ []) ++ divisor → wide' ≡ wide → IsDifference n1 gone carry longer' wide' → Grown n1 n2 → Grown n2 ns
    → goes < length n2 → ((choice v : ℕ → Bool) → Runs n2 choice v → v goes ≡ (v carry && v divides)) → ((choice v : ℕ → Bool) → Runs n1 choice v → v none.at ≡ false)
    → kept ≡ drop 1 gone → kept_longer ≡ drop 1 longer
    → Spells ns left (length kept) (λ v. if v goes then number v kept else number v kept_longer)
    → IsDivideStep ns goes left rest next.at divisor divides
DivideStep-is n1 n2 ns rest divisor longer longer' wide wide' gone kept kept_longer left next none carry goes divides same e e' f f' diff grown1 grown2 inside goes_value none_value k l s =
    let longer_wide : length longer' ≡ length rest + 1 = ap length (e' ∙ e) ∙ length-append rest (next ∷ []) in
    let wide_wide : length wide' ≡ length divisor + 1 = ap length (f' ∙ f) ∙ (let one : suc (length divisor) ≡ length divisor + 1 = omega arith in one) in
    let widths : length longer' ≡ length wide' = omega arith in
    let gone_wide : length gone ≡ length rest + 1 = diff.wide ∙ longer_wide in
    let kept_wide : length kept ≡ length rest = ap length k ∙ length-drop 1 gone ∙ (let back : length gone - 1 ≡ length rest = omega arith in back) in
    let divisor_is : (choice v : ℕ → Bool) → Runs n1 choice v → number v wide' ≡ number v divisor = λ choice v r.
    ap (number v) (f' ∙ f) ∙ number-cons v none divisor ∙ (let off : bit (v none.at) ≡ 0 = ap bit (none_value choice v r) in ap (λ b. b * 2 ^ length divisor + number v divisor) off ∙ (let z : 0 * 2 ^ length divisor + number v divisor ≡ number v divisor = omega arith in z)) in
    let longer_is : (v : ℕ → Bool) → number v longer' ≡ 2 * number v rest + bit (v next.at) = λ (v : ℕ → Bool). ap (number v) (e' ∙ e) ∙ number-push v rest next in
    let goes_is : (choice v : ℕ → Bool) → Runs ns choice v → v goes ≡ (nat_le (number v divisor) (2 * number v rest + bit (v next.at)) && v divides) = λ choice v r.
    (let r2 = grown2.runs choice v r in let r1 = grown1.runs choice v r2 in
    goes_value choice v r2 ∙ ap (λ b. b && v divides) ((difference_value n1 gone longer' wide' carry widths diff choice v r1).0 ∙ ap (λ n. nat_le n (number v longer')) (divisor_is choice v r1) ∙ ap (nat_le (number v divisor)) (longer_is v))) in
    record {
      wide = s.wide ∙ kept_wide;
      goes_below = omega (arith, inside, grown2.longer);
      left_below = s.below;
      goes_is = goes_is;
      left_is = λ choice v r.
          (let r2 = grown2.runs choice v r in let r1 = grown1.runs choice v r2 in
          let n = 2 * number v rest + bit (v next.at) in
          let d = number v divisor in
          let kept_is : number v kept ≡ number v gone % 2 ^ length rest = ap (number v) k ∙ drop_high v gone (length rest) gone_wide in
          let kept_longer_is : number v kept_longer ≡ n % 2 ^ length rest = ap (number v) l ∙ drop_high v longer (length rest) (ap length (sym e') ∙ longer_wide) ∙ ap (λ m. m % 2 ^ length rest) (ap (number v) (sym e') ∙ longer_is v) in
          let gone_is : number v gone ≡ difference (length longer') n d = (difference_value n1 gone longer' wide' carry widths diff choice v r1).1
          ∙ ap (λ m. difference (length longer') m (number v wide')) (longer_is v) ∙ ap (difference (length longer') n) (divisor_is choice v r1) in
          let gone_low : number v gone < 2 ^ length longer' = subst (λ (i : ℕ). number v gone < 2 ^ i) diff.wide (number-below v gone) in
          let n_low : n < 2 ^ length longer' = subst (λ (m : ℕ). m < 2 ^ length longer') (longer_is v) (number-below v longer') in
          s.value choice v r ∙ kept_is_exact (v goes) (v divides) (2 ^ length longer') (2 ^ length rest) (number v kept) (number v kept_longer) (number v gone) n d (goes_is choice v r) kept_is kept_longer_is gone_is gone_low n_low);
    }

-- one turn of the division
pub division_step : (v : ℕ → Bool) (a divisor rest rest' left result new : List Gate) (g d : Gate) (divides i : ℕ) → length a ≡ length divisor → i < length a → length rest ≡ length a → rest' ≡ rest → new ≡ result ++ g ∷ []
    → v divides ≡ not (nat_eq (number v divisor) 0)
    → number v rest ≡ remainder (number v (take i a)) (number v divisor) → number v result ≡ quotient (number v (take i a)) (number v divisor)
    → v g.at ≡ (nat_le (number v divisor) (2 * number v rest' + bit (v (get_or a i d).at)) && v divides)
    → number v left ≡ (if v g.at then 2 * number v rest' + bit (v (get_or a i d).at) - number v divisor else 2 * number v rest' + bit (v (get_or a i d).at)) % 2 ^ length rest'
    → (number v left ≡ remainder (number v (take (i + 1) a)) (number v divisor)) × (number v new ≡ quotient (number v (take (i + 1) a)) (number v divisor))
division_step v a divisor rest rest' left result new g d divides i same low wide e f nz rest_is result_is goes_is left_is =
    let x = v (get_or a i d).at in
    let small : number v (take i a) < 2 ^ i = (let cut : length (take i a) ≡ i = omega (arith, length-take i a) in subst (λ (j : ℕ). number v (take i a) < 2 ^ j) cut (number-below v (take i a))) in
    let divisor_low : number v divisor < 2 ^ length a = subst (λ (j : ℕ). number v divisor < 2 ^ j) (sym same) (number-below v divisor) in
    let rest_same : number v rest' ≡ number v rest = ap (number v) e in
    let n_is : 2 * number v rest' + bit x ≡ 2 * number v rest + bit x = ap (λ m. 2 * m + bit x) rest_same in
    let goes' : v g.at ≡ (nat_le (number v divisor) (2 * number v rest + bit x) && not (nat_eq (number v divisor) 0)) = goes_is ∙ ap (λ n. nat_le (number v divisor) n && v divides) n_is ∙ ap (λ b. nat_le (number v divisor) (2 * number v rest + bit x) && b) nz in
    let left' : number v left ≡ (if v g.at then 2 * number v rest + bit x - number v divisor else 2 * number v rest + bit x) % 2 ^ length a =
    left_is ∙ ap (λ n. (if v g.at then n - number v divisor else n) % 2 ^ length rest') n_is ∙ ap (λ j. (if v g.at then 2 * number v rest + bit x - number v divisor else 2 * number v rest + bit x) % 2 ^ j) (ap length e ∙ wide) in
    let both = divide_more x (v g.at) (number v (take i a)) (number v divisor) (length a) i (number v rest) (number v left) (number v result) low small divisor_low rest_is result_is goes' left' in
    let longer = number-take v a i d low in
    let pushed : number v new ≡ 2 * number v result + bit (v g.at) = ap (number v) f ∙ number-push v result g in
    (both.0 ∙ ap (λ t. remainder t (number v divisor)) (sym longer), pushed ∙ both.1 ∙ ap (λ t. quotient t (number v divisor)) (sym longer))

pub division_none : (v : ℕ → Bool) (rest result divisor : List Gate) → number v rest ≡ 0 → result ≡ []
    → (number v rest ≡ remainder (number v []) (number v divisor)) × (number v result ≡ quotient (number v []) (number v divisor))
division_none v rest result divisor e f = (e ∙ by (cases_eq (number v divisor) 0), ap (number v) f ∙ number-nil v ∙ by' (cases_eq (number v divisor) 0))
  where
    by : (number v divisor ≡ 0) ⊎ (number v divisor ≡ 0 → ⊥) → 0 ≡ remainder (number v []) (number v divisor)
    by (inl z) = rw (eq-eqb (number v divisor) 0 z) (sym (number-nil v))
    by (inr nz) = rw (ne_eqb (number v divisor) 0 nz, number-nil v) (sym (zero-mod (number v divisor)))

    by' : (number v divisor ≡ 0) ⊎ (number v divisor ≡ 0 → ⊥) → 0 ≡ quotient (number v []) (number v divisor)
    by' (inl z) = rw (eq-eqb (number v divisor) 0 z) refl
    by' (inr nz) = rw (ne_eqb (number v divisor) 0 nz, number-nil v) (sym (zero-div (number v divisor)))
