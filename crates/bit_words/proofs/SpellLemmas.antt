-- From the parts of a circuit to the number that its result spells.
use Rattle.std.proofs.Common.{◌≡◌, ℕ, ◌+◌, ◌-◌, ◌*◌, ◌%◌, ◌^◌, ◌<◌, Bool, true, false, if◌then◌else◌, List, length, Result, Ok, Err, refl, sym, ◌∙◌, ap, subst, arith}
use Rattle.std.specs.Prelude.{IfOk, nat_le}
use Rattle.std.proofs.Math.Nat.{mod-eq_of_lt}
use Rattle.bit_net.specs.declared.nodes.Gate.{Gate}
use Rattle.bit_net.specs.declared.nodes.Node.{Node}
use Rattle.bit_net.specs.Runs.{Runs, Grown}
use Rattle.bit_words.specs.Number.{bit, number, difference}
use Rattle.bit_words.specs.Parts.{IsSum, IsDifference}
use Rattle.bit_words.specs.Spells.{Spells}
use Rattle.bit_words.proofs.NumberLemmas.{number-below}
use Rattle.bit_words.proofs.StepLemmas.{sum_low, no_borrow, difference_low}

pub IfOk-more : {T E : Type 0} (P Q : T → Type 0) (r : Result T E) → IfOk r P → ((x : T) → P x → Q x) → IfOk r Q
IfOk-more P Q (Ok x) h f = f x h
IfOk-more P Q (Err e) h f = h

-- a word spells what an equal number says
pub Spells-as : (ns : List Node) (word : List Gate) (width width' : ℕ) (of of' : (ℕ → Bool) → ℕ) → Spells ns word width of → width ≡ width' → ((choice v : ℕ → Bool) → Runs ns choice v → of v ≡ of' v) → Spells ns word width' of'
Spells-as ns word width width' of of' s e same = record {
  wide = s.wide ∙ e;
  below = s.below;
  value = λ choice v r. s.value choice v r ∙ same choice v r;
}

word_below : (v : ℕ → Bool) (word : List Gate) (width : ℕ) → length word ≡ width → number v word < 2 ^ width
word_below v word width wide = subst (λ (k : ℕ). number v word < 2 ^ k) wide (number-below v word)

pub sum_value : (ns : List Node) (sum a b : List Gate) (carry first : ℕ) → IsSum ns sum carry a b first → (choice v : ℕ → Bool) → Runs ns choice v
    → number v sum ≡ (number v a + number v b + bit (v first)) % 2 ^ length a
sum_value ns sum a b carry first s choice v r =
    sum_low (2 ^ length a) (number v sum) (bit (v carry)) (number v a + number v b + bit (v first)) (word_below v sum (length a) s.wide) (s.value choice v r)

pub Spells-sum : (old ns : List Node) (sum a a' b b' : List Gate) (carry first : ℕ) → IsSum ns sum carry a' b' first → a' ≡ a → b' ≡ b → Grown old ns → ((choice v : ℕ → Bool) → Runs old choice v → v first ≡ false)
    → Spells ns sum (length a) (λ v. (number v a + number v b) % 2 ^ length a)
Spells-sum old ns sum a a' b b' carry first s e f grown none =
    let s' = subst (λ (x : List Gate). IsSum ns sum carry x b' first) e s in
    let t : IsSum ns sum carry a b first = subst (λ (y : List Gate). IsSum ns sum carry a y first) f s' in
    record {
      wide = t.wide;
      below = t.sum_below;
      value = λ choice v r. sum_value ns sum a b carry first t choice v r
          ∙ ap (λ n. n % 2 ^ length a) (let add : number v a + number v b + bit (v first) ≡ number v a + number v b = rw (none choice v (grown.runs choice v r)) (omega arith) in add);
    }

-- the sum with the inverted word and a carry is the difference
pub Difference-sum : (old ns : List Node) (d a b inverse inverse' : List Gate) (carry always : ℕ) → length a ≡ length b → IsSum ns d carry a inverse' always → inverse' ≡ inverse → Grown old ns
    → Spells old inverse (length b) (λ v. if v always then 2 ^ length b - 1 - number v b else number v b) → ((choice v : ℕ → Bool) → Runs old choice v → v always ≡ true) → IsDifference ns d carry a b
Difference-sum old ns d a b inverse inverse' carry always same s e grown inv holds = record {
  wide = s.wide;
  below = s.sum_below;
  carry_below = s.carry_below;
  value = λ choice v r.
      (let on : v always ≡ true = holds choice v (grown.runs choice v r) in
      let sum : number v d + bit (v carry) * 2 ^ length a ≡ number v a + number v inverse' + bit (v always) = s.value choice v r in
      let turned : number v inverse' ≡ 2 ^ length b - 1 - number v b = ap (number v) e ∙ inv.value choice v (grown.runs choice v r) ∙ rw on refl in
      let one : bit (v always) ≡ 1 = ap bit on in
      let small : number v b < 2 ^ length b = number-below v b in
      let widths : 2 ^ length a ≡ 2 ^ length b = ap (λ k. 2 ^ k) same in
      omega arith);
}

-- a word taken from zero where a gate holds
pub Spells-negated : (n1 n2 ns : List Node) (sum a turned turned' none none' : List Gate) (carry when never : ℕ) → IsSum ns sum carry turned' none' when → turned' ≡ turned → none' ≡ none
    → Grown n2 ns → Grown n1 n2 → Spells n2 turned (length a) (λ v. if v when then 2 ^ length a - 1 - number v a else number v a)
    → Spells n1 none (length a) (λ v. if v never then 2 ^ length a - 1 else 0) → ((choice v : ℕ → Bool) → Runs n1 choice v → v never ≡ false)
    → Spells ns sum (length a) (λ v. if v when then (2 ^ length a - number v a) % 2 ^ length a else number v a)
Spells-negated n1 n2 ns sum a turned turned' none none' carry when never s e f grown2 grown1 t z off =
    let wide : length turned' ≡ length a = ap length e ∙ t.wide in
    record {
      wide = s.wide ∙ wide;
      below = s.sum_below;
      value = λ choice v r.
          (let r2 = grown2.runs choice v r in
          let r1 = grown1.runs choice v r2 in
          let nothing : number v none' ≡ 0 = ap (number v) f ∙ z.value choice v r1 ∙ rw (off choice v r1) refl in
          let flipped : number v turned' ≡ (if v when then 2 ^ length a - 1 - number v a else number v a) = ap (number v) e ∙ t.value choice v r2 in
          sum_value ns sum turned' none' carry when s choice v r ∙ ap (λ k. (number v turned' + number v none' + bit (v when)) % 2 ^ k) wide ∙ by (v when) (2 ^ length a) (number v a) (number v turned') (number v none') flipped nothing (number-below v a));
    }
  where
    by : (c : Bool) (p n t z : ℕ) → t ≡ (if c then p - 1 - n else n) → z ≡ 0 → n < p → (t + z + bit c) % p ≡ (if c then (p - n) % p else n)
    by true p n t z e f h = ap (λ k. k % p) (let whole : t + z + 1 ≡ p - n = omega arith in whole)
    by false p n t z e f h = ap (λ k. k % p) (let whole : t + z + 0 ≡ n = omega arith in whole) ∙ mod-eq_of_lt h

-- a sum whose second word counts only where a gate holds
pub Spells-sum_where : (n1 n2 ns : List Node) (sum a b counted counted' none none' : List Gate) (carry when never : ℕ) → length a ≡ length b → IsSum ns sum carry a counted' never → counted' ≡ counted → none' ≡ none
    → Grown n2 ns → Grown n1 n2 → Spells n2 counted (length b) (λ v. if v when then number v b else number v none')
    → Spells n1 none (length b) (λ v. if v never then 2 ^ length b - 1 else 0) → ((choice v : ℕ → Bool) → Runs n1 choice v → v never ≡ false)
    → Spells ns sum (length a) (λ v. (number v a + (if v when then number v b else 0)) % 2 ^ length a)
Spells-sum_where n1 n2 ns sum a b counted counted' none none' carry when never same s e f grown2 grown1 t z off = record {
  wide = s.wide;
  below = s.sum_below;
  value = λ choice v r.
      (let r2 = grown2.runs choice v r in
      let r1 = grown1.runs choice v r2 in
      let nothing : number v none' ≡ 0 = ap (number v) f ∙ z.value choice v r1 ∙ rw (off choice v r1) refl in
      let chosen : number v counted' ≡ (if v when then number v b else 0) = ap (number v) e ∙ t.value choice v r2 ∙ ap (λ n. if v when then number v b else n) nothing in
      let zero_bit : bit (v never) ≡ 0 = ap bit (off choice v r1) in
      sum_value ns sum a counted' carry never s choice v r ∙ ap (λ k. k % 2 ^ length a) (let whole : number v a + number v counted' + bit (v never) ≡ number v a + (if v when then number v b else 0) = rw (chosen, zero_bit) (omega arith) in whole));
}

-- what the carry and the bits of a difference say
pub difference_value : (ns : List Node) (d a b : List Gate) (carry : ℕ) → length a ≡ length b → IsDifference ns d carry a b → (choice v : ℕ → Bool) → Runs ns choice v
    → (v carry ≡ nat_le (number v b) (number v a)) × (number v d ≡ difference (length a) (number v a) (number v b))
difference_value ns d a b carry same s choice v r =
    let small_d = word_below v d (length a) s.wide in
    let small_b = word_below v b (length a) (sym same) in (
      no_borrow (v carry) (2 ^ length a) (number v d) (number v a) (number v b) small_d (number-below v a) small_b (s.value choice v r),
      difference_low (v carry) (2 ^ length a) (number v d) (number v a) (number v b) small_d (number-below v a) small_b (s.value choice v r),
    )

-- the bits of a difference
pub Spells-difference : (ns : List Node) (d a a' b b' : List Gate) (carry : ℕ) → length a ≡ length b → IsDifference ns d carry a' b' → a' ≡ a → b' ≡ b
    → Spells ns d (length a) (λ v. difference (length a) (number v a) (number v b))
Spells-difference ns d a a' b b' carry same s e f =
    let s' = subst (λ (x : List Gate). IsDifference ns d carry x b') e s in
    let t : IsDifference ns d carry a b = subst (λ (y : List Gate). IsDifference ns d carry a y) f s' in
    record { wide = t.wide; below = t.below; value = λ choice v r. (difference_value ns d a b carry same t choice v r).1 }
