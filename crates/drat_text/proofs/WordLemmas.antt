-- Written numbers and literals are words, and are what they were written from.
use Rattle.std.proofs.Common.{◌≡◌, ◌≢◌, ℕ, ◌+◌, ◌-◌, ◌*◌, ◌/◌, ◌%◌, ◌≤◌, ◌<◌, ◌^◌, Bool, true, false, List, [], ◌∷◌}
use Rattle.std.proofs.Common.{◌++◌, length, refl, sym, ap}
use Rattle.std.proofs.Common.{◌∙◌, arith, Some, None, All, rules}
use Rattle.std.specs.Prelude.{◌&&◌, ◌==◌, not, nat_le, codes, decimal, bytes_eq, if◌then◌else◌, option_map}
use Rattle.std.specs.Char.{is_ascii_digit, is_ascii_whitespace}
use Rattle.std.specs.List.{list_all, slice_split, filter}
use Rattle.std.proofs.lemmas.Bool.{and_parts}
use Rattle.std.proofs.lemmas.Bool.Decides.{nat_tests}
use Rattle.std.proofs.lemmas.Cmp.{nat_list_eq_equiv}
use Rattle.std.proofs.lemmas.Fmt.{decimal_by_steps}
use Rattle.std.proofs.lemmas.List.Elements.{All-nil, All-cons}
use Rattle.std.proofs.lemmas.List.Splits.{slice_split_none, slice_split_at}
use Rattle.sat_base.specs.declared.literal.Lit.{Lit}
use Rattle.drat_text.specs.Parts.{has_bytes, is_line_feed, lines, words}
use Rattle.drat_text.specs.Numbers.{decimal as value, greatest, number, variable_of, variable, with_sign, literal}
use Rattle.drat_text.specs.Expecting.{begins_with_c}
use Rattle.drat_text.specs.Writing.{lit_word}

-- ---- numbers

value_push : (front : ℕ) (ds : List ℕ) (d : ℕ) → value front (ds ++ d ∷ []) ≡ 10 * value front ds + (d - 48)
value_push front [] d = refl
value_push front (e ∷ es) d = value_push (10 * front + (e - 48)) es d

all_push : (ds : List ℕ) (d : ℕ) → list_all is_ascii_digit ds ≡ true → is_ascii_digit d ≡ true → list_all is_ascii_digit (ds ++ d ∷ []) ≡ true
all_push [] d all one = rw one refl
all_push (e ∷ es) d all one =
    let parts = and_parts (is_ascii_digit e) (list_all is_ascii_digit es) all in
    rw (parts.0) (all_push es d parts.1 one)

-- digits, one at least, of this number
pub record AreDigits (n : ℕ) (ds : List ℕ) : Type 0 where
  pub digits : list_all is_ascii_digit ds ≡ true
  pub number : value 0 ds ≡ n
  pub some : has_bytes ds ≡ true

digit_is : (n : ℕ) → n < 10 → is_ascii_digit (48 + n) ≡ true
digit_is n small = grind (arith, nat_tests)

one_digit : (n : ℕ) → n < 10 → AreDigits n ((48 + n) ∷ [])
one_digit n small = record {
  digits = rw (digit_is n small) refl;
  number = omega arith;
  some = refl;
}

some_push : (ds : List ℕ) (d : ℕ) → has_bytes (ds ++ d ∷ []) ≡ true
some_push [] d = refl
some_push (e ∷ es) d = refl

more_digits : (n : ℕ) (ds : List ℕ) → 10 ≤ n → AreDigits (n / 10) ds → AreDigits n (ds ++ ((48 + n % 10) ∷ []))
more_digits n ds large are = record {
  digits = all_push ds (48 + n % 10) are.digits (digit_is (n % 10) (omega arith));
  number = value_push 0 ds (48 + n % 10) ∙ (let known = are.number in omega arith);
  some = some_push ds (48 + n % 10);
}

pub are_digits : (n : ℕ) → n < 2 ^ 64 → AreDigits n (decimal n)
are_digits = decimal_by_steps AreDigits one_digit more_digits

pub number_is : (n : ℕ) (word : List ℕ) → n ≤ greatest → AreDigits n word → number word ≡ Some n
unfolding number
number_is n word small are =
    let fits : nat_le n greatest ≡ true = grind (arith, nat_tests) in
    rw (are.some, are.digits, are.number, fits) refl

-- ---- literals

first_is : (n b : ℕ) (bs : List ℕ) → AreDigits n (b ∷ bs) → is_ascii_digit b ≡ true
first_is n b bs are = (and_parts (is_ascii_digit b) (list_all is_ascii_digit bs) are.digits).0

no_minus : (b : ℕ) → is_ascii_digit b ≡ true → (b == 45) ≡ false
no_minus b digit = grind (arith, nat_tests)

variable_is : (vars v : ℕ) (word : List ℕ) → vars ≤ greatest → v < vars → AreDigits (v + 1) word → variable vars word ≡ Some v
variable_is vars v word small below are =
    let low : nat_le 1 (v + 1) ≡ true = grind (arith, nat_tests) in
    let high : nat_le (v + 1) vars ≡ true = grind (arith, nat_tests) in
    let back : (v + 1) - 1 ≡ v = omega arith in
    rw (number_is (v + 1) word (omega arith) are, low, high, back) refl

positive : (vars v : ℕ) (word : List ℕ) → vars ≤ greatest → v < vars → AreDigits (v + 1) word
    → literal vars word ≡ Some (record { var = v; neg = false })
unfolding literal
positive vars v [] small below are = absurd (let e : false ≡ true = are.some in (cc))
positive vars v (b ∷ bs) small below are = rw (no_minus b (first_is (v + 1) b bs are), variable_is vars v (b ∷ bs) small below are) refl

negative : (vars v : ℕ) (word : List ℕ) → vars ≤ greatest → v < vars → AreDigits (v + 1) word
    → literal vars (45 ∷ word) ≡ Some (record { var = v; neg = true })
unfolding literal
negative vars v word small below are = rw (variable_is vars v word small below are) refl

-- ---- the word of a literal

plain_digit : (b : ℕ) → is_ascii_digit b ≡ true → is_ascii_whitespace b ≡ false
plain_digit b digit = grind (arith, nat_tests)

abbrev pub IsPlain : List ℕ → Type 0
IsPlain word = All (λ b. is_ascii_whitespace b ≡ false) word

plain_digits : (ds : List ℕ) → list_all is_ascii_digit ds ≡ true → IsPlain ds
plain_digits [] all = All-nil (λ b. is_ascii_whitespace b ≡ false)
plain_digits (d ∷ ds) all =
    let parts = and_parts (is_ascii_digit d) (list_all is_ascii_digit ds) all in
    All-cons (λ b. is_ascii_whitespace b ≡ false) d ds (plain_digit d parts.0) (plain_digits ds parts.1)

pub plain_decimal : (n : ℕ) → n < 2 ^ 64 → IsPlain (decimal n)
plain_decimal n small = plain_digits (decimal n) (are_digits n small).digits

no_c : (b : ℕ) → is_ascii_digit b ≡ true → (b == 99) ≡ false
no_c b digit = grind (arith, nat_tests)

no_letter_d : (b : ℕ) → is_ascii_digit b ≡ true → (b == 100) ≡ false
no_letter_d b digit = grind (arith, nat_tests)

-- what is known of the word of a literal
pub record IsLitWord (vars : ℕ) (l : Lit) (word : List ℕ) : Type 0 where
  pub reads : literal vars word ≡ Some l
  pub no_end : bytes_eq word (codes "0") ≡ false
  pub no_d : bytes_eq word (codes "d") ≡ false
  pub some : has_bytes word ≡ true
  pub plain : IsPlain word
  pub no_comment : (rest : List ℕ) → begins_with_c (word ++ rest) ≡ false

never_both : (b : Bool) → (b && false) ≡ false
never_both true = refl
never_both false = refl

no_zero : (b : ℕ) → b ≢ 48 → (b == 48) ≡ false
no_zero b other = grind (arith, nat_tests)

positive_no_end : (v : ℕ) (word : List ℕ) → AreDigits (v + 1) word → bytes_eq word (codes "0") ≡ false
positive_no_end v [] are = refl
positive_no_end v (b ∷ []) are =
    let known : 10 * 0 + (b - 48) ≡ v + 1 = are.number in
    let other : b ≢ 48 = λ e. absurd (omega arith) in
    rw (no_zero b other) refl
positive_no_end v (b ∷ c ∷ cs) are = never_both (b == 48)

positive_word : (vars v : ℕ) (word : List ℕ) → vars ≤ greatest → v < vars → AreDigits (v + 1) word
    → IsLitWord vars (record { var = v; neg = false }) word
positive_word vars v [] small below are = absurd (let e : false ≡ true = are.some in (cc))
positive_word vars v (b ∷ bs) small below are =
    let digit = first_is (v + 1) b bs are in
    record {
      reads = positive vars v (b ∷ bs) small below are;
      no_end = positive_no_end v (b ∷ bs) are;
      no_d = rw (no_letter_d b digit) refl;
      some = refl;
      plain = plain_digits (b ∷ bs) are.digits;
      no_comment = λ rest. no_c b digit;
    }

negative_word : (vars v : ℕ) (word : List ℕ) → vars ≤ greatest → v < vars → AreDigits (v + 1) word
    → IsLitWord vars (record { var = v; neg = true }) (45 ∷ word)
negative_word vars v word small below are = record {
  reads = negative vars v word small below are;
  no_end = refl;
  no_d = refl;
  some = refl;
  plain = All-cons (λ b. is_ascii_whitespace b ≡ false) 45 word refl (plain_digits word are.digits);
  no_comment = λ rest. refl;
}

signed_word : (vars v : ℕ) (neg : Bool) → vars ≤ greatest → v < vars
    → IsLitWord vars (record { var = v; neg = neg }) (lit_word (record { var = v; neg = neg }))
signed_word vars v true small below = negative_word vars v (decimal (v + 1)) small below (are_digits (v + 1) (omega arith))
signed_word vars v false small below = positive_word vars v (decimal (v + 1)) small below (are_digits (v + 1) (omega arith))

pub lit_word_is : (vars : ℕ) (l : Lit) → vars ≤ greatest → l.var < vars → IsLitWord vars l (lit_word l)
lit_word_is vars l small below = signed_word vars l.var l.neg small below

-- ---- words and lines

pub word_then : (word rest : List ℕ) → has_bytes word ≡ true → IsPlain word → words (word ++ 32 ∷ rest) ≡ word ∷ words rest
word_then word rest some plain = rw (slice_split_at is_ascii_whitespace word 32 rest plain refl, some) refl

pub word_last : (word : List ℕ) → has_bytes word ≡ true → IsPlain word → words word ≡ word ∷ []
word_last word some plain = rw (slice_split_none is_ascii_whitespace word plain, some) refl

-- no byte of these ends a line
abbrev pub IsInLine : List ℕ → Type 0
IsInLine bytes = All (λ b. is_line_feed b ≡ false) bytes

no_feed : (b : ℕ) → is_ascii_whitespace b ≡ false → is_line_feed b ≡ false
no_feed b plain = grind (arith, nat_tests)

pub in_line : (word : List ℕ) → IsPlain word → IsInLine word
in_line word plain k d below = no_feed _ (plain k d below)

pub line_then : (line rest : List ℕ) → IsInLine line → lines (line ++ 10 ∷ rest) ≡ line ∷ lines rest
line_then line rest inside = slice_split_at is_line_feed line 10 rest inside refl
