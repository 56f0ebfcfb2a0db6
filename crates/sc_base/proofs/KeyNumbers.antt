-- The numbers of keys, where a key comes behind the others or goes.
use Rattle.std.proofs.Common.{◌≡◌, ℕ, ◌+◌, Bool, true, false, not, ◌||◌, cond, ◌<◌, Option, Some, None, IfNone, is_some, List, [], ◌∷◌, ◌++◌, length, take, if◌then◌else◌, refl, sym, ◌∙◌, ap, arith}
use Rattle.std.proofs.lemmas.List.{length_push, take-append-le}
use Rattle.std.specs.Cmp.{IsEquivalence}
use Rattle.std.specs.List.{list_any, position_or_len}
use Rattle.std.specs.Option.{option_to_list}
use Rattle.sc_base.specs.Numbers.{number_from, AreApart, IsNumbered}

both_false : (a b : Bool) → (a || b) ≡ false → (a ≡ false) × (b ≡ false)
both_false false false is = (refl, refl)
both_false false true is = let no : true ≡ false = is in (cc)
both_false true b is = let no : true ≡ false = is in (cc)

or_is_false : (a b : Bool) → a ≡ false → b ≡ false → (a || b) ≡ false
or_is_false a b left right = rw (left, right) refl

or_swap : (a b c : Bool) → (a || (b || c)) ≡ ((a || b) || c)
or_swap true b c = refl
or_swap false b c = refl

or_none : (a : Bool) → (a || false) ≡ a
or_none true = refl
or_none false = refl

any_behind : {K : Type 0} (test : K → Bool) (ks : List K) (k : K) → list_any test (ks ++ k ∷ []) ≡ (list_any test ks || test k)
any_behind test [] k = or_none (test k)
any_behind test (x ∷ ks) k = ap (λ b. test x || b) (any_behind test ks k) ∙ or_swap (test x) (list_any test ks) (test k)

any_same : {K : Type 0} {eq : K → K → Bool} → IsEquivalence eq → (a b : K) → eq a b ≡ true → (ks : List K) → list_any (eq a) ks ≡ list_any (eq b) ks
any_same laws a b same [] = refl
any_same {eq = eq} laws a b same (x ∷ ks) =
    ap (λ c. c || list_any (eq a) ks) (laws.congr a b x same) ∙ ap (λ c. eq b x || c) (any_same laws a b same ks)

-- Keys apart, with one more or without the last.

pub apart_behind : {K : Type 0} {eq : K → K → Bool} → IsEquivalence eq → (ks : List K) (k : K) → AreApart eq ks → list_any (eq k) ks ≡ false → AreApart eq (ks ++ k ∷ [])
apart_behind laws [] k apart none = (refl, tt)
apart_behind {eq = eq} laws (x ∷ ks) k apart none =
    let parts = both_false (eq k x) (list_any (eq k) ks) none in (
      any_behind (eq x) ks k ∙ or_is_false (list_any (eq x) ks) (eq x k) apart.0 (laws.symm x k ∙ parts.0),
      apart_behind laws ks k apart.1 parts.1,
    )

pub apart_front : {K : Type 0} {eq : K → K → Bool} → IsEquivalence eq → (ks : List K) (k : K) → AreApart eq (ks ++ k ∷ []) → AreApart eq ks × (list_any (eq k) ks ≡ false)
apart_front laws [] k apart = (tt, refl)
apart_front {eq = eq} laws (x ∷ ks) k apart =
    let parts = both_false (list_any (eq x) ks) (eq x k) (sym (any_behind (eq x) ks k) ∙ apart.0) in
    let rest = apart_front laws ks k apart.1 in
    ((parts.0, rest.0), or_is_false (eq k x) (list_any (eq k) ks) (laws.symm k x ∙ parts.1) rest.1)

-- The number of a key.

number_by : (b : Bool) (n : ℕ) (rest : Option ℕ) (any : Bool) → is_some rest ≡ any → is_some (if b then Some n else rest) ≡ (b || any)
number_by true n rest any is = refl
number_by false n rest any is = is

pub number_there : {K : Type 0} (test : K → Bool) (n : ℕ) (ks : List K) → is_some (number_from test n ks) ≡ list_any test ks
number_there test n [] = refl
number_there test n (k ∷ ks) = number_by (test k) n (number_from test (n + 1) ks) (list_any test ks) (number_there test (n + 1) ks)

none_by : (o : Option ℕ) → is_some o ≡ false → o ≡ None
none_by None is = refl
none_by (Some n) is = let no : true ≡ false = is in (cc)

number_none : {K : Type 0} (test : K → Bool) (n : ℕ) (ks : List K) → list_any test ks ≡ false → number_from test n ks ≡ None
number_none test n ks none = none_by (number_from test n ks) (number_there test n ks ∙ none)

-- behind keys that do not pass
last_by : (b : Bool) (m n : ℕ) → m ≡ n → (if b then Some m else None) ≡ cond b (Some n) None
last_by true m n is = ap (λ (k : ℕ). Some k) is
last_by false m n is = refl

here_by : (b t : Bool) (m n : ℕ) (old new : Option ℕ) → new ≡ cond t (Some n) old → (if b then Some m else new) ≡ (if b then Some m else cond t (Some n) old)
here_by b t m n old new is = rw is refl

number_last : {K : Type 0} (test : K → Bool) (n : ℕ) (ks : List K) (k : K) → list_any test ks ≡ false → number_from test n (ks ++ k ∷ []) ≡ cond (test k) (Some (n + length ks)) None
number_last test n [] k none = last_by (test k) n (n + 0) (omega arith)
number_last test n (x ∷ ks) k none =
    let parts = both_false (test x) (list_any test ks) none in
    let more : (n + 1) + length ks ≡ n + length (x ∷ ks) = omega arith in
    rw parts.0 (number_last test (n + 1) ks k parts.1 ∙ ap (λ (m : ℕ). cond (test k) (Some m) None) more)

-- in front of a key that does not pass
number_front : {K : Type 0} (test : K → Bool) (n : ℕ) (ks : List K) (k : K) → test k ≡ false → number_from test n (ks ++ k ∷ []) ≡ number_from test n ks
number_front test n [] k fails = rw fails refl
number_front test n (x ∷ ks) k fails = ap (λ (o : Option ℕ). if test x then Some n else o) (number_front test (n + 1) ks k fails)

more_by : {K : Type 0} {eq : K → K → Bool} → IsEquivalence eq → (ks : List K) (k q : K) (b : Bool) → eq k q ≡ b → list_any (eq k) ks ≡ false
    → cond b (Some (length ks)) (number_from (eq q) 0 ks) ≡ number_from (eq q) 0 (ks ++ k ∷ [])
more_by {eq = eq} laws ks k q true same none =
    let turned : eq q k ≡ true = laws.symm q k ∙ same in
    let last = number_last (eq q) 0 ks k (sym (any_same laws k q same ks) ∙ none) in
    sym (last ∙ ap (λ b. cond b (Some (0 + length ks)) None) turned ∙ ap (λ (m : ℕ). Some m) (omega arith))
more_by {eq = eq} laws ks k q false other none = sym (number_front (eq q) 0 ks k (laws.symm q k ∙ other))

less_by : {K : Type 0} {eq : K → K → Bool} → IsEquivalence eq → (ks : List K) (k q : K) (b : Bool) → eq k q ≡ b → list_any (eq k) ks ≡ false
    → cond b None (number_from (eq q) 0 (ks ++ k ∷ [])) ≡ number_from (eq q) 0 ks
less_by {eq = eq} laws ks k q true same none = sym (number_none (eq q) 0 ks (sym (any_same laws k q same ks) ∙ none))
less_by {eq = eq} laws ks k q false other none = number_front (eq q) 0 ks k (laws.symm q k ∙ other)

-- the index with one key more
pub numbered_behind : {K : Type 0} {eq : K → K → Bool} → IsEquivalence eq → (old new : K → Option ℕ) (ks : List K) (k : K) → IsNumbered eq old ks → list_any (eq k) ks ≡ false
    → ((q : K) → new q ≡ cond (eq k q) (Some (length ks)) (old q)) → IsNumbered eq new (ks ++ k ∷ [])
numbered_behind {eq = eq} laws old new ks k is none put = record {
  apart = apart_behind laws ks k is.apart none;
  finds = λ q. put q ∙ ap (λ (o : Option ℕ). cond (eq k q) (Some (length ks)) o) (is.finds q) ∙ more_by laws ks k q (eq k q) refl none;
}

-- the index without the last key
pub numbered_front : {K : Type 0} {eq : K → K → Bool} → IsEquivalence eq → (old new : K → Option ℕ) (ks : List K) (k : K) → IsNumbered eq old (ks ++ k ∷ [])
    → ((q : K) → new q ≡ cond (eq k q) None (old q)) → IsNumbered eq new ks
numbered_front {eq = eq} laws old new ks k is taken =
    let front = apart_front laws ks k is.apart in
    record {
      apart = front.0;
      finds = λ q. taken q ∙ ap (λ (o : Option ℕ). cond (eq k q) None o) (is.finds q) ∙ less_by laws ks k q (eq k q) refl front.1;
    }

-- a key is there where the index has a number for it
pub found_there : {K : Type 0} (eq : K → K → Bool) (index : K → Option ℕ) (ks : List K) (k : K) → IsNumbered eq index ks → is_some (index k) ≡ list_any (eq k) ks
found_there eq index ks k is = ap is_some (is.finds k) ∙ number_there (eq k) 0 ks

-- The number found, or how many keys there are.

abbrev or_number : Option ℕ → ℕ → ℕ
or_number None n = n
or_number (Some m) n = m

place_by : (b : Bool) (n many place : ℕ) (rest : Option ℕ) → or_number rest ((n + 1) + many) ≡ (n + 1) + place
    → or_number (if b then Some n else rest) (n + (1 + many)) ≡ n + cond (not b) (1 + place) 0
place_by true n many place rest is = omega arith
place_by false n many place rest is =
    let further : or_number rest (n + (1 + many)) ≡ or_number rest ((n + 1) + many) = ap (or_number rest) (omega arith) in
    omega (arith, further, is)

place_is : {K : Type 0} (test : K → Bool) (n : ℕ) (ks : List K) → or_number (number_from test n ks) (n + length ks) ≡ n + position_or_len test ks
place_is test n [] = refl
place_is test n (k ∷ ks) =
    let many : length (k ∷ ks) ≡ 1 + length ks = omega arith in
    rw many (place_by (test k) n (length ks) (position_or_len test ks) (number_from test (n + 1) ks) (place_is test (n + 1) ks))

place_found : {K : Type 0} (test : K → Bool) (ks : List K) → or_number (number_from test 0 ks) (length ks) ≡ position_or_len test ks
place_found test ks =
    let zero_is : or_number (number_from test 0 ks) (length ks) ≡ or_number (number_from test 0 ks) (0 + length ks) = ap (or_number (number_from test 0 ks)) (omega arith) in
    omega (arith, zero_is, place_is test 0 ks)

pub place_none : {K : Type 0} (eq : K → K → Bool) (index : K → Option ℕ) (ks : List K) (k : K) → IsNumbered eq index ks → index k ≡ None → length ks ≡ position_or_len (eq k) ks
place_none eq index ks k is none =
    ap (λ o. or_number o (length ks)) (sym none ∙ is.finds k) ∙ place_found (eq k) ks

pub place_some : {K : Type 0} (eq : K → K → Bool) (index : K → Option ℕ) (ks : List K) (k : K) (n : ℕ) → IsNumbered eq index ks → index k ≡ Some n → n ≡ position_or_len (eq k) ks
place_some eq index ks k n is some =
    ap (λ o. or_number o (length ks)) (sym some ∙ is.finds k) ∙ place_found (eq k) ks

-- Keys that go from the end, until there are so many.

pub one_less : {K : Type 0} (n : ℕ) (ks left : List K) (k : Option K) → ks ≡ left ++ option_to_list k → IfNone k (ks ≡ []) → n < length ks
    → (take n left ≡ take n ks) × (length left < length ks)
one_less n ks left None is none more = let long = ap length none in absurd (omega (arith, long, more))
one_less n ks left (Some k) is none more =
    let long : length ks ≡ length left + 1 = ap length is ∙ length_push left k in
    (sym (ap (take n) is ∙ take-append-le n left (k ∷ []) (omega (arith, long, more))), omega (arith, long))
