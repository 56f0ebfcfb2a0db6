-- Choices and their spellings.
use Rattle.std.proofs.Common.{◌≡◌, ◌∙◌, ◌⊎◌, ℕ, zero, suc, ◌+◌, ◌-◌, ◌*◌, ◌/◌, ◌<◌, ◌≤◌, Bool, true, false, not, List, [], ◌∷◌, length, get_or, take, drop, Option, Some, None, refl, sym, subst, ap, arith, inl, inr}
use Rattle.std.specs.Prelude.{codes, option_map, Vec}
use Rattle.std.specs.Str.{bytes_eq}
use Rattle.std.specs.Option.{MatchOption}
use Rattle.std.specs.declared.alloc.Global.{Global}
use Rattle.std.proofs.lemmas.Slice.Eq.{bytes_eq-Decides}
use Rattle.std.specs.List.{list_all}
use Rattle.std.proofs.lemmas.List.{ext_get_or, get_or-take, get_or-drop, get_or_past, length-take-le, length-drop, nil_from_length}
use Rattle.std.proofs.lemmas.List.FromFn.{length-map-range_with_len}
use Rattle.std.proofs.lemmas.Bool.{cases_lt}
use Rattle.report_text.specs.Shown.{four_bits, hex_digit, hex_digits, choice_text}
use Rattle.sc_world.specs.Choices.{first_choice, IsLeast}
use Rattle.choice_texts.specs.Digits.{HaveBits, HaveNoBits}
use Rattle.choice_texts.specs.Choices.{IsSpelled, NoneIsSpelled, is_spelled, choice_spelled}
use Rattle.choice_texts.proofs.Hexadecimal.{digits_of_same, bits_of_same}

-- how many digits a choice has
abbrev pub count_of : ℕ → ℕ
count_of bits = (bits + 3) / 4

pub text_is : (choice : List Bool) (bits : ℕ) → length choice ≡ bits → (bits ≡ 0 → ⊥) → choice_text choice ≡ hex_digits choice (count_of bits)
text_is [] bits long some = absurd (some (sym long))
text_is (b ∷ bs) bits long some = ap (λ (n : ℕ). hex_digits (b ∷ bs) (count_of n)) long

pub count_is : (choice : List Bool) (bits : ℕ) → length choice ≡ bits → (bits ≡ 0 → ⊥) → length (choice_text choice) ≡ count_of bits
count_is choice bits long some =
    ap length (text_is choice bits long some) ∙ length-map-range_with_len (λ k. hex_digit (four_bits choice k)) 0 (count_of bits)

pub alike : (one other : List Bool) → length one ≡ length other → choice_text one ≡ choice_text other → one ≡ other
alike one other long same = go (cases_lt 0 (length one))
  where
    go : (0 < length one) ⊎ (length one ≤ 0) → one ≡ other
    go (inr none) =
        nil_from_length one (omega (arith, none)) ∙ sym (nil_from_length other (omega (arith, none, long)))
    go (inl some) =
        let is : length one ≡ 0 → ⊥ = λ e. omega (arith, e, some) in
        let digits : hex_digits one (count_of (length one)) ≡ hex_digits other (count_of (length one)) =
        sym (text_is one (length one) refl is) ∙ (same ∙ text_is other (length one) (sym long) is) in
        ext_get_or false one other long (λ at inside. bits_of_same one other (count_of (length one)) digits at (omega (arith, inside)))

-- bits behind a choice that are not set are not spelled
blank_at : (bits : List Bool) (at : ℕ) → list_all not bits ≡ true → get_or bits at false ≡ false
blank_at [] at blank = refl
blank_at (false ∷ bs) zero blank = refl
blank_at (false ∷ bs) (suc at) blank = blank_at bs at blank
blank_at (true ∷ bs) at blank = absurd (let wrong : false ≡ true = blank in (cc))

pub cut_text : (full : List Bool) (digits : List ℕ) (bits : ℕ) → (bits ≡ 0 → ⊥) → bits ≤ length full → hex_digits full (count_of bits) ≡ digits
    → list_all not (drop bits full) ≡ true → choice_text (take bits full) ≡ digits
cut_text full digits bits some fits spelled blank =
    text_is (take bits full) bits (length-take-le bits full fits) some
    ∙ (digits_of_same (take bits full) full (count_of bits) (λ at inside. at_bit at (cases_lt at bits)) ∙ spelled)
  where
    at_bit : (at : ℕ) → (at < bits) ⊎ (bits ≤ at) → get_or (take bits full) at false ≡ get_or full at false
    at_bit at (inl here) = get_or-take bits full at false here
    at_bit at (inr past) =
        get_or_past (take bits full) at false (let long = length-take-le bits full fits in omega (arith, long, past))
        ∙ (sym (blank_at (drop bits full) (at - bits) blank)
        ∙ (get_or-drop bits full (at - bits) false ∙ ap (λ (i : ℕ). get_or full i false) (let e : bits + (at - bits) ≡ at = omega (arith, past) in e)))

-- and where one is set, no choice of that length is spelled so
all_blank : (bits : List Bool) → ((at : ℕ) → at < length bits → get_or bits at false ≡ false) → list_all not bits ≡ true
all_blank [] each = refl
all_blank (true ∷ bs) each = absurd (let wrong : true ≡ false = each 0 (omega arith) in (cc))
all_blank (false ∷ bs) each = all_blank bs (λ at inside. each (suc at) (omega (arith, inside)))

pub not_cut : (full choice : List Bool) (digits : List ℕ) (bits : ℕ) → (bits ≡ 0 → ⊥) → length full ≡ 4 * count_of bits → hex_digits full (count_of bits) ≡ digits
    → list_all not (drop bits full) ≡ false → length choice ≡ bits → choice_text choice ≡ digits → ⊥
not_cut full choice digits bits some fits spelled unset long same =
    let alike : hex_digits full (count_of bits) ≡ hex_digits choice (count_of bits) =
    spelled ∙ (sym same ∙ text_is choice bits long some) in
    let blank : list_all not (drop bits full) ≡ true =
    all_blank (drop bits full)
    (λ at inside.
    get_or-drop bits full at false
    ∙ (bits_of_same full choice (count_of bits) alike (bits + at) (let l = length-drop bits full in omega (arith, l, inside, fits))
    ∙ get_or_past choice (bits + at) false (omega (arith, long)))) in
    let wrong : false ≡ true = sym unset ∙ blank in
    (cc)

-- ---- so many digits as a choice of that length has

at_least_one : (bits : ℕ) → (bits ≡ 0 → ⊥) → (bits - 1) / 4 + 1 ≡ count_of bits
at_least_one zero some = absurd (some refl)
at_least_one (suc n) some = omega arith

pub not_as_many : (bits : ℕ) (digits : List ℕ) → (bits ≡ 0 → ⊥) → (length digits ≡ (bits - 1) / 4 + 1 → ⊥) → NoneIsSpelled bits digits
not_as_many bits digits some other choice long same =
    other (ap length (sym same) ∙ (count_is choice bits long some ∙ sym (at_least_one bits some)))

module _ (bits : ℕ) (digits : List ℕ) (some : bits ≡ 0 → ⊥) (many : length digits ≡ (bits - 1) / 4 + 1) where
  as_many : length digits ≡ count_of bits
  as_many = many ∙ at_least_one bits some

  pub no_digits : HaveNoBits digits → NoneIsSpelled bits digits
  no_digits none choice long same =
      none choice (ap (hex_digits choice) as_many ∙ (sym (text_is choice bits long some) ∙ same))

  module _ (full : List Bool) (have : HaveBits digits full) where
    full_long : length full ≡ 4 * count_of bits
    full_long = have.long ∙ ap (λ (k : ℕ). 4 * k) as_many

    full_spelled : hex_digits full (count_of bits) ≡ digits
    full_spelled = ap (hex_digits full) (sym as_many) ∙ have.spelled

    fits : bits ≤ length full
    fits = omega (arith, full_long)

    pub cut_is : list_all not (drop bits full) ≡ true → IsSpelled bits digits (take bits full)
    cut_is blank = record { long = length-take-le bits full fits; spelled = cut_text full digits bits some fits full_spelled blank }

    pub none_is : list_all not (drop bits full) ≡ false → NoneIsSpelled bits digits
    none_is unset choice long same = not_cut full choice digits bits some full_long full_spelled unset long same

-- ---- no bits

pub none_found : (bits : ℕ) (digits : List ℕ) → bits ≡ 0 → bytes_eq digits (codes "none") ≡ true → IsSpelled bits digits []
none_found bits digits empty same = record { long = sym empty; spelled = sym ((bytes_eq-Decides digits (codes "none")).0 same) }

pub none_missed : (bits : ℕ) (digits : List ℕ) → bits ≡ 0 → bytes_eq digits (codes "none") ≡ false → NoneIsSpelled bits digits
none_missed bits digits empty other [] long same =
    let wrong : false ≡ true = sym other ∙ (bytes_eq-Decides digits (codes "none")).1 (sym same) in
    cc
none_missed bits digits empty other (b ∷ bs) long same = omega (arith, long, empty)

-- ---- the choice that is spelled so

abbrev pub Least : Type 0
Least = (n : ℕ) (test : List Bool → Bool) (c : List Bool) → first_choice n test ≡ Some c → IsLeast n test c

abbrev pub Found : Type 0
Found = (n : ℕ) (test : List Bool → Bool) (d : List Bool) → length d ≡ n → test d ≡ true → (c : List Bool) × (first_choice n test ≡ Some c)

pub is_found : Least → Found → (bits : ℕ) (digits : List ℕ) (choice : List Bool) → length choice ≡ bits → choice_text choice ≡ digits
    → choice_spelled bits digits ≡ Some choice
unfolding choice_spelled
is_found least some bits digits choice long spelled =
    let first = some bits (is_spelled digits) choice long ((bytes_eq-Decides (choice_text choice) digits).1 spelled) in
    let is : IsLeast bits (is_spelled digits) first.0 = least bits (is_spelled digits) first.0 first.1 in
    let text : choice_text first.0 ≡ digits = (bytes_eq-Decides (choice_text first.0) digits).0 is.passes in
    first.1 ∙ ap Some (alike first.0 choice (is.long ∙ sym long) (text ∙ sym spelled))

pub is_not_found : Least → (bits : ℕ) (digits : List ℕ) → NoneIsSpelled bits digits → choice_spelled bits digits ≡ None
unfolding choice_spelled
is_not_found least bits digits none = go (first_choice bits (is_spelled digits)) refl
  where
    go : (o : Option (List Bool)) → first_choice bits (is_spelled digits) ≡ o → o ≡ None
    go None e = refl
    go (Some c) e =
        let is : IsLeast bits (is_spelled digits) c = least bits (is_spelled digits) c e in
        absurd (none c is.long ((bytes_eq-Decides (choice_text c) digits).0 is.passes))

abbrev pub Reads : ℕ → List ℕ → Option (Vec Bool Global) → Type 0
Reads bits digits found = MatchOption found (NoneIsSpelled bits digits) (λ choice. IsSpelled bits digits choice.items)

pub read_is : Least → Found → (bits : ℕ) (digits : List ℕ) (found : Option (Vec Bool Global)) → Reads bits digits found
    → option_map (λ choice. choice.items) found ≡ choice_spelled bits digits
read_is least some bits digits None none = sym (is_not_found least bits digits none)
read_is least some bits digits (Some choice) is = sym (is_found least some bits digits choice.items is.long is.spelled)
