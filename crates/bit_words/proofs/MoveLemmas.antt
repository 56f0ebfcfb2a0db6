-- Signed results by their sign bits, words that are moved by places, and words of another width.
use Rattle.std.proofs.Common.{◌≡◌, ℕ, ◌+◌, ◌-◌, ◌*◌, ◌/◌, ◌%◌, ◌^◌, ◌<◌, ◌≤◌, Bool, true, false, ◌&&◌, ◌||◌, if◌then◌else◌, nat_lt, List, [], ◌∷◌, ◌++◌, length, take, drop, get_or, refl, sym, ◌∙◌, ap, subst, arith, length-append, length-take, length-drop}
use Rattle.std.proofs.Math.Nat.{pow-le-pow_right, mod-eq_of_lt, div-eq_of_lt, zero-mod, zero-div, div-add-mod', mod-lt, mul-mod_left, add-mul, mul_assoc, mul-lt-mul_of_pos_right}
use Rattle.std.proofs.lemmas.Nat.{pow_pos, pow-add, mod-mul-add, mul-mod_first, shr-shr}
use Rattle.std.specs.Prelude.{int_lt}
use Rattle.std.proofs.lemmas.List.{drop_all}
use Rattle.bit_net.specs.declared.nodes.Gate.{Gate}
use Rattle.bit_net.specs.declared.nodes.Node.{Node}
use Rattle.bit_net.specs.Value.{xor}
use Rattle.bit_net.specs.Runs.{Runs, Grown, Gives}
use Rattle.bit_words.specs.declared.shifting.Direction.{Direction}
use Rattle.bit_words.specs.declared.shifting.Direction.TheVariants.{Up, Down}
use Rattle.bit_words.specs.Number.{bit, number, top, quotient, remainder, signed, wrapped, signed_quotient, signed_remainder, moved_down, converted}
use Rattle.bit_words.specs.Parts.{magnitude, first, moved, IsDivisionOfMagnitudes, IsShiftStep}
use Rattle.bit_words.specs.Spells.{Spells}
use Rattle.bit_words.proofs.NumberLemmas.{number-nil, number-append, number-below, number-drop, number-take_whole, number-drop_more, top-append, top-take, top-drop}
use Rattle.bit_words.proofs.SignLemmas.{SignOf, sign_of_word, head_and_tail, signed_less_is, signed_quotient_is, signed_remainder_is, moved_is, cut_is, widen_is}

pub first_is : (a : List Gate) (d : Gate) → 0 < length a → (get_or a 0 d).at ≡ first a
first_is [] d h = absurd (omega arith)
first_is (g ∷ gs) d h = refl

pub sign_first : (v : ℕ → Bool) (a : List Gate) (w : ℕ) → length a ≡ w → 0 < w → SignOf w (v (first a)) (number v a)
sign_first v [] w e h = absurd (omega arith)
sign_first v (g ∷ gs) w e h = subst (λ (k : ℕ). SignOf k (v g.at) (number v (g ∷ gs))) e (sign_of_word v (g ∷ gs) g (omega arith))

pub Quotient-signed : (n1 n2 ns : List Node) (a b result result' left word : List Gate) (d : Gate) (minus : ℕ) → 0 < length a → length a ≡ length b → IsDivisionOfMagnitudes n2 result left a b → result' ≡ result
    → Grown n1 n2 → Grown n2 ns → ((choice v : ℕ → Bool) → Runs n1 choice v → v minus ≡ xor (v (get_or a 0 d).at) (v (get_or b 0 d).at))
    → Spells ns word (length result') (λ v. if v minus then (2 ^ length result' - number v result') % 2 ^ length result' else number v result')
    → Spells ns word (length a) (λ v. signed_quotient (length a) (number v a) (number v b))
Quotient-signed n1 n2 ns a b result result' left word d minus some same m e grown1 grown2 sign s =
    let wide : length result' ≡ length a = ap length e ∙ m.result_wide in
    record {
      wide = s.wide ∙ wide;
      below = s.below;
      value = λ choice v r.
          (let r2 = grown2.runs choice v r in
          let r1 = grown1.runs choice v r2 in
          let minus_is : v minus ≡ xor (v (first a)) (v (first b)) = sign choice v r1 ∙ ap (λ g. xor (v g) (v (get_or b 0 d).at)) (first_is a d some) ∙ ap (λ g. xor (v (first a)) (v g)) (first_is b d (omega arith)) in
          let result_is : number v result' ≡ quotient (magnitude (v (first a)) (2 ^ length a) (number v a)) (magnitude (v (first b)) (2 ^ length a) (number v b)) = ap (number v) e ∙ m.result_is choice v r2 in
          s.value choice v r ∙ ap (λ k. magnitude (v minus) (2 ^ k) (number v result')) wide ∙ ap (λ k. magnitude k (2 ^ length a) (number v result')) minus_is
          ∙ ap (magnitude (xor (v (first a)) (v (first b))) (2 ^ length a)) result_is
          ∙ signed_quotient_is (v (first a)) (v (first b)) (length a) (number v a) (number v b) (sign_first v a (length a) refl some) (sign_first v b (length a) (sym same) some));
    }

pub Remainder-signed : (n2 ns : List Node) (a b result left left' word : List Gate) (d : Gate) → 0 < length a → length a ≡ length b → IsDivisionOfMagnitudes n2 result left a b → left' ≡ left → Grown n2 ns
    → Spells ns word (length left') (λ v. if v (get_or a 0 d).at then (2 ^ length left' - number v left') % 2 ^ length left' else number v left')
    → Spells ns word (length a) (λ v. signed_remainder (length a) (number v a) (number v b))
Remainder-signed n2 ns a b result left left' word d some same m e grown2 s =
    let wide : length left' ≡ length a = ap length e ∙ m.left_wide in
    record {
      wide = s.wide ∙ wide;
      below = s.below;
      value = λ choice v r.
          (let r2 = grown2.runs choice v r in
          let left_is : number v left' ≡ remainder (magnitude (v (first a)) (2 ^ length a) (number v a)) (magnitude (v (first b)) (2 ^ length a) (number v b)) = ap (number v) e ∙ m.left_is choice v r2 in
          s.value choice v r ∙ ap (λ k. magnitude (v (get_or a 0 d).at) (2 ^ k) (number v left')) wide ∙ ap (λ g. magnitude (v g) (2 ^ length a) (number v left')) (first_is a d some)
          ∙ ap (magnitude (v (first a)) (2 ^ length a)) left_is
          ∙ signed_remainder_is (v (first a)) (v (first b)) (length a) (number v a) (number v b) (sign_first v a (length a) refl some) (sign_first v b (length a) (sym same) some));
    }

mod_scaled : (n p q : ℕ) → 0 < p → 0 < q → (n % p) * q ≡ (n * q) % (p * q)
mod_scaled n p q h k =
    let whole : n * q ≡ (n / p) * (p * q) + (n % p) * q = ap (λ m. m * q) (sym (div-add-mod' n p)) ∙ add-mul (n / p * p) (n % p) q ∙ ap (λ m. m + (n % p) * q) (mul_assoc (n / p) p q) in
    let small : (n % p) * q < p * q = scaled_lt (n % p) p q (mod-lt n h) k in
    sym (ap (λ m. m % (p * q)) whole ∙ mod-mul-add (n / p) (p * q) ((n % p) * q) small)
  where
    scaled_lt : (m p q : ℕ) → m < p → 0 < q → m * q < p * q
    scaled_lt m p q l k = mul-lt-mul_of_pos_right l k

never_number : (v : ℕ → Bool) (none : List Gate) (never by : ℕ) → v never ≡ false → number v none ≡ (if v never then 2 ^ by - 1 else 0) → number v none ≡ 0
never_number v none never by off e = e ∙ rw off refl

pub Moved-up : (ns : List Node) (a part none none' word : List Gate) (never by : ℕ) → by ≤ length a → top a ≤ length ns → part ≡ drop by a → none' ≡ none → word ≡ part ++ none'
    → Spells ns none by (λ v. if v never then 2 ^ by - 1 else 0) → ((choice v : ℕ → Bool) → Runs ns choice v → v never ≡ false)
    → Spells ns word (length a) (λ v. (number v a * 2 ^ by) % 2 ^ length a)
Moved-up ns a part none none' word never by small inside e f g s off =
    let whole : word ≡ drop by a ++ none = g ∙ ap (λ l. l ++ none') e ∙ ap (λ l. drop by a ++ l) f in
    let powers : 2 ^ (length a - by) * 2 ^ by ≡ 2 ^ length a = sym (pow-add 2 (length a - by) by) ∙ ap (λ k. 2 ^ k) (let back : length a - by + by ≡ length a = omega arith in back) in
    record {
      wide = ap length whole ∙ length-append (drop by a) none ∙ (let sum : length (drop by a) + length none ≡ length a = omega (arith, length-drop by a, s.wide) in sum);
      below = omega (arith, ap top whole, top-append (drop by a) none, top-drop a by, s.below);
      value = λ choice v r.
          (ap (number v) whole ∙ number-append v (drop by a) none
          ∙ (let zeros : number v none ≡ 0 = never_number v none never by (off choice v r) (s.value choice v r) in
          let shape : number v (drop by a) * 2 ^ length none + number v none ≡ number v (drop by a) * 2 ^ by = omega (arith, zeros, ap (λ k. number v (drop by a) * 2 ^ k) s.wide) in shape)
          ∙ ap (λ n. n * 2 ^ by) (number-drop v a by small) ∙ mod_scaled (number v a) (2 ^ (length a - by)) (2 ^ by) (pow_pos (length a - by)) (pow_pos by)
          ∙ ap (λ k. (number v a * 2 ^ by) % k) powers);
    }

pub Moved-down : (ns : List Node) (a part none none' word : List Gate) (never by : ℕ) → by ≤ length a → top a ≤ length ns → part ≡ take (length a - by) a → none' ≡ none → word ≡ none' ++ part
    → Spells ns none by (λ v. if v never then 2 ^ by - 1 else 0) → ((choice v : ℕ → Bool) → Runs ns choice v → v never ≡ false)
    → Spells ns word (length a) (λ v. number v a / 2 ^ by)
Moved-down ns a part none none' word never by small inside e f g s off =
    let kept = take (length a - by) a in
    let whole : word ≡ none ++ kept = g ∙ ap (λ l. l ++ part) f ∙ ap (λ l. none ++ l) e in
    let places : length a - (length a - by) ≡ by = omega arith in
    record {
      wide = ap length whole ∙ length-append none kept ∙ (let sum : length none + length kept ≡ length a = omega (arith, length-take (length a - by) a, s.wide) in sum);
      below = omega (arith, ap top whole, top-append none kept, top-take a (length a - by), s.below);
      value = λ choice v r.
          (ap (number v) whole ∙ number-append v none kept
          ∙ (let zeros : number v none ≡ 0 = never_number v none never by (off choice v r) (s.value choice v r) in
          let shape : number v none * 2 ^ length kept + number v kept ≡ number v kept = rw zeros (omega arith) in shape)
          ∙ number-take_whole v a (length a - by) (omega arith) ∙ ap (λ k. number v a / 2 ^ k) places);
    }

moved_none : (direction : Direction) (w n : ℕ) → n < 2 ^ w → moved direction w n 0 ≡ n
moved_none Up w n h = ap (λ k. k % 2 ^ w) (let whole : n * 2 ^ 0 ≡ n = omega arith in whole) ∙ mod-eq_of_lt h
moved_none Down w n h = div_one n
  where
    div_one : (n : ℕ) → n / 2 ^ 0 ≡ n
    div_one n = omega arith

moved_twice : (direction : Direction) (w n j k : ℕ) → moved direction w (moved direction w n j) k ≡ moved direction w n (j + k)
moved_twice Up w n j k = mul-mod_first (n * 2 ^ j) (2 ^ k) (2 ^ w) ∙ ap (λ m. m % 2 ^ w) (mul_assoc n (2 ^ j) (2 ^ k) ∙ ap (λ m. n * m) (sym (pow-add 2 j k)))
moved_twice Down w n j k = shr-shr n j k

moved_zero : (direction : Direction) (w k : ℕ) → moved direction w 0 k ≡ 0
moved_zero Up w k = ap (λ m. m % 2 ^ w) (let none : 0 * 2 ^ k ≡ 0 = omega arith in none) ∙ zero-mod (2 ^ w)
moved_zero Down w k = zero-div (2 ^ k)

moved_out : (direction : Direction) (w n k : ℕ) → n < 2 ^ w → w ≤ k → moved direction w n k ≡ 0
moved_out Up w n k h far =
    let split : 2 ^ k ≡ 2 ^ (k - w) * 2 ^ w = ap (λ m. 2 ^ m) (let whole : k ≡ k - w + w = omega arith in whole) ∙ pow-add 2 (k - w) w in
    ap (λ m. (n * m) % 2 ^ w) split ∙ ap (λ m. m % 2 ^ w) (sym (mul_assoc n (2 ^ (k - w)) (2 ^ w))) ∙ mul-mod_left (n * 2 ^ (k - w)) (2 ^ w)
moved_out Down w n k h far =
    let up : 2 ^ w ≤ 2 ^ k = pow-le-pow_right (omega arith) far in
    div-eq_of_lt (let low : n < 2 ^ k = omega arith in low)

-- one step of a shift: the word is moved where the bit holds, or nothing of it is left
step_within : (direction : Direction) (beyond c : Bool) (w n k m : ℕ) → n < 2 ^ w → m ≡ (if c then moved direction w n k else n) → (if beyond then 0 else m) ≡ moved direction w (if beyond then 0 else n) (if c then k else 0)
step_within direction true c w n k m h e = sym (moved_zero direction w (if c then k else 0))
step_within direction false true w n k m h e = e
step_within direction false false w n k m h e = e ∙ sym (moved_none direction w n h)

step_beyond : (direction : Direction) (beyond c : Bool) (w n k : ℕ) → n < 2 ^ w → w ≤ k → (if beyond || c then 0 else n) ≡ moved direction w (if beyond then 0 else n) (if c then k else 0)
step_beyond direction true c w n k h far = sym (moved_zero direction w (if c then k else 0))
step_beyond direction false true w n k h far = sym (moved_out direction w n k h far)
step_beyond direction false false w n k h far = sym (moved_none direction w n h)

pub Shift-within : (n1 ns : List Node) (word word' made made' new : List Gate) (direction : Direction) (beyond by c : ℕ) → Grown n1 ns → beyond < length n1 → word' ≡ word → made' ≡ made
    → Spells n1 made (length word) (λ v. moved direction (length word) (number v word) by) → Spells ns new (length made') (λ v. if v c then number v made' else number v word')
    → IsShiftStep ns new beyond direction word beyond by c
Shift-within n1 ns word word' made made' new direction beyond by c grown inside e f m s = record {
  wide = s.wide ∙ ap length f ∙ m.wide;
  below = s.below;
  beyond_below = omega (arith, inside, grown.longer);
  value = λ choice v r. step_within direction (v beyond) (v c) (length word) (number v word) by (number v new) (number-below v word)
      (s.value choice v r ∙ ap (λ n. if v c then n else number v word') (ap (number v) f ∙ m.value choice v (grown.runs choice v r)) ∙ ap (λ n. if v c then moved direction (length word) (number v word) by else n) (ap (number v) e));
}

pub Shift-beyond : (n1 ns : List Node) (word : List Gate) (direction : Direction) (beyond new_beyond by c : ℕ) → top word ≤ length n1 → Grown n1 ns → length word ≤ by → new_beyond < length ns
    → ((choice v : ℕ → Bool) → Runs ns choice v → v new_beyond ≡ (v beyond || v c)) → IsShiftStep ns word new_beyond direction word beyond by c
Shift-beyond n1 ns word direction beyond new_beyond by c inside grown far low either = record {
  wide = refl;
  below = omega (arith, inside, grown.longer);
  beyond_below = low;
  value = λ choice v r. ap (λ b. if b then 0 else number v word) (either choice v r) ∙ step_beyond direction (v beyond) (v c) (length word) (number v word) by (number-below v word) far;
}

pub shift_none : (v : ℕ → Bool) (direction : Direction) (a word count : List Gate) (beyond : ℕ) → word ≡ a → v beyond ≡ false
    → (if v beyond then 0 else number v word) ≡ moved direction (length a) (number v a) (number v (drop (length count - 0) count))
shift_none v direction a word count beyond e off =
    let no_count : number v (drop (length count - 0) count) ≡ 0 = ap (number v) (drop_all (length count - 0) count (omega arith)) ∙ number-nil v in
    ap (λ b. if b then 0 else number v word) off ∙ ap (number v) e ∙ sym (ap (moved direction (length a) (number v a)) no_count ∙ moved_none direction (length a) (number v a) (number-below v a))

pub shift_step : (v : ℕ → Bool) (direction : Direction) (a word new count : List Gate) (beyond new_beyond by j : ℕ) (d : Gate) → length word ≡ length a → j < length count → by ≡ 2 ^ j
    → (if v beyond then 0 else number v word) ≡ moved direction (length a) (number v a) (number v (drop (length count - j) count))
    → (if v new_beyond then 0 else number v new) ≡ moved direction (length word) (if v beyond then 0 else number v word) (if v (get_or count (length count - 1 - j) d).at then by else 0)
    → (if v new_beyond then 0 else number v new) ≡ moved direction (length a) (number v a) (number v (drop (length count - (j + 1)) count))
shift_step v direction a word new count beyond new_beyond by j d wide low e before here =
    let c = v (get_or count (length count - 1 - j) d).at in
    let t = number v (drop (length count - j) count) in
    let step : t + (if c then by else 0) ≡ number v (drop (length count - (j + 1)) count) = steps c by (2 ^ j) t e ∙ sym (number-drop_more v count j d low) in
    here ∙ ap (λ w. moved direction w (if v beyond then 0 else number v word) (if c then by else 0)) wide ∙ ap (λ n. moved direction (length a) n (if c then by else 0)) before
    ∙ moved_twice direction (length a) (number v a) t (if c then by else 0) ∙ ap (moved direction (length a) (number v a)) step
  where
    steps : (c : Bool) (by p t : ℕ) → by ≡ p → t + (if c then by else 0) ≡ bit c * p + t
    steps true by p t e = omega arith
    steps false by p t e = omega arith

-- the shifted word, or zero
pub shift_end : (v : ℕ → Bool) (none word : List Gate) (beyond n : ℕ) → number v none ≡ 0 → (if v beyond then 0 else number v word) ≡ n → (if v beyond then number v none else number v word) ≡ n
shift_end v none word beyond n zeros e = ap (λ k. if v beyond then k else number v word) zeros ∙ e

pub Shift-signed : (n1 n2 ns : List Node) (a one one' two two' word : List Gate) (d : Gate) (count : (ℕ → Bool) → ℕ) → 0 < length a → Grown n1 n2 → Grown n2 ns → one' ≡ one → two' ≡ two
    → Spells n1 one (length a) (λ v. if v (get_or a 0 d).at then 2 ^ length a - 1 - number v a else number v a)
    → Spells n2 two (length one') (λ v. number v one' / 2 ^ count v)
    → Spells ns word (length two') (λ v. if v (get_or a 0 d).at then 2 ^ length two' - 1 - number v two' else number v two')
    → Spells ns word (length a) (λ v. wrapped (length a) (moved_down (signed (length a) (number v a)) (count v)))
Shift-signed n1 n2 ns a one one' two two' word d count some grown1 grown2 e f s1 s2 s3 =
    let wide_one : length one' ≡ length a = ap length e ∙ s1.wide in
    let wide_two : length two' ≡ length a = ap length f ∙ s2.wide ∙ wide_one in
    record {
      wide = s3.wide ∙ wide_two;
      below = s3.below;
      value = λ choice v r.
          (let r2 = grown2.runs choice v r in
          let r1 = grown1.runs choice v r2 in
          let s = v (get_or a 0 d).at in
          let one_is : number v one' ≡ (if s then 2 ^ length a - 1 - number v a else number v a) = ap (number v) e ∙ s1.value choice v r1 in
          let two_is : number v two' ≡ (if s then 2 ^ length a - 1 - number v a else number v a) / 2 ^ count v = ap (number v) f ∙ s2.value choice v r2 ∙ ap (λ n. n / 2 ^ count v) one_is in
          s3.value choice v r ∙ ap (λ k. if s then 2 ^ k - 1 - number v two' else number v two') wide_two ∙ ap (λ n. if s then 2 ^ length a - 1 - n else n) two_is
          ∙ moved_is s (length a) (number v a) (count v) (sign_of_word v a d some));
    }

-- a conversion to fewer bits, and to more
pub Converted-cut : (ns : List Node) (a word : List Gate) (is_signed : Bool) (width : ℕ) → 0 < length a → top a ≤ length ns → width ≤ length a → word ≡ drop (length a - width) a
    → Spells ns word width (λ v. converted is_signed (length a) width (number v a))
Converted-cut ns a word is_signed width some inside small e =
    let places : length a - (length a - width) ≡ width = omega arith in
    record {
      wide = ap length e ∙ length-drop (length a - width) a ∙ places;
      below = omega (arith, ap top e, top-drop a (length a - width));
      value = λ choice v r. ap (number v) e ∙ number-drop v a (length a - width) (omega arith) ∙ ap (λ k. number v a % 2 ^ k) places ∙ by is_signed v;
    }
  where
    by : (is_signed : Bool) (v : ℕ → Bool) → number v a % 2 ^ width ≡ converted is_signed (length a) width (number v a)
    by true v = cut_is (v (first a)) (length a) width (number v a) (sign_first v a (length a) refl some) small
    by false v = refl

pub Converted-widened : (ns : List Node) (a fill word : List Gate) (is_signed : Bool) (width above : ℕ) → 0 < length a → top a ≤ length ns → length a ≤ width → word ≡ fill ++ a
    → Spells ns fill (width - length a) (λ v. if v above then 2 ^ (width - length a) - 1 else 0) → ((choice v : ℕ → Bool) → Runs ns choice v → v above ≡ (is_signed && v (first a)))
    → Spells ns word width (λ v. converted is_signed (length a) width (number v a))
Converted-widened ns a fill word is_signed width above some inside large e s sign = record {
  wide = ap length e ∙ length-append fill a ∙ (let sum : length fill + length a ≡ width = omega (arith, s.wide) in sum);
  below = omega (arith, ap top e, top-append fill a, s.below);
  value = λ choice v r. ap (number v) e ∙ number-append v fill a
      ∙ ap (λ n. n * 2 ^ length a + number v a) (s.value choice v r ∙ ap (λ b. if b then 2 ^ (width - length a) - 1 else 0) (sign choice v r)) ∙ by is_signed v;
}
  where
    by : (is_signed : Bool) (v : ℕ → Bool) → (if is_signed && v (first a) then 2 ^ (width - length a) - 1 else 0) * 2 ^ length a + number v a ≡ converted is_signed (length a) width (number v a)
    by true v = widen_is (v (first a)) (length a) width (number v a) (sign_first v a (length a) refl some) large
    by false v =
        let up : 2 ^ length a ≤ 2 ^ width = pow-le-pow_right (omega arith) large in
        let low : number v a < 2 ^ width = omega (arith, number-below v a) in
        (let none : 0 * 2 ^ length a + number v a ≡ number v a = omega arith in none) ∙ sym (mod-eq_of_lt low)

pub ruleset first_law = (first_is)

-- the order of signed words, from that of the bits below their signs
pub Less-signed : (n1 ns : List Node) (a b tail_a tail_b : List Gate) (below g : ℕ) (d : Gate) → 0 < length a → length a ≡ length b → tail_a ≡ drop 1 a → tail_b ≡ drop 1 b → Grown n1 ns
    → ((choice v : ℕ → Bool) → Runs n1 choice v → v below ≡ nat_lt (number v tail_a) (number v tail_b))
    → Gives ns g (λ choice v. if xor (v (get_or b 0 d).at) (v (get_or a 0 d).at) then v (get_or a 0 d).at else v below)
    → Gives ns g (λ choice v. int_lt (signed (length a) (number v a)) (signed (length a) (number v b)))
Less-signed n1 ns a b tail_a tail_b below g d some same e f grown less s = record {
  below = s.below;
  value = λ choice v r.
      (let parts_a = head_and_tail v a d some in
      let some_b : 0 < length b = omega arith in
      let parts_b = head_and_tail v b d some_b in
      let sign_b = subst (λ (k : ℕ). SignOf k (v (get_or b 0 d).at) (number v b)) (sym same) (sign_of_word v b d some_b) in
      let whole_b : number v b ≡ bit (v (get_or b 0 d).at) * 2 ^ (length a - 1) + number v (drop 1 b) = parts_b.0 ∙ ap (λ k. bit (v (get_or b 0 d).at) * 2 ^ (k - 1) + number v (drop 1 b)) (sym same) in
      s.value choice v r ∙ ap (λ x. if xor (v (get_or b 0 d).at) (v (get_or a 0 d).at) then v (get_or a 0 d).at else x)
      (less choice v (grown.runs choice v r) ∙ ap (λ l. nat_lt (number v l) (number v tail_b)) e ∙ ap (λ l. nat_lt (number v (drop 1 a)) (number v l)) f)
      ∙ signed_less_is (v (get_or a 0 d).at) (v (get_or b 0 d).at) (length a) (number v a) (number v b) (number v (drop 1 a)) (number v (drop 1 b)) (sign_of_word v a d some) sign_b parts_a.0 whole_b);
}
