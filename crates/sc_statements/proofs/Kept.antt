-- The choices that are kept say which choice was seen.
use Rattle.std.proofs.Common.{◌≡◌, ℕ, Bool, true, false, not, ◌||◌, List, [], ◌∷◌, ◌++◌, map, Option, Some, None, nat_eq, if◌then◌else◌, refl, sym, ◌∙◌, ap}
use Rattle.std.proofs.lemmas.Bool.{false≢true, eqb-true}
use Rattle.std.proofs.lemmas.List.{map-append}
use Rattle.std.specs.List.{list_any}
use Rattle.std.specs.Option.{option_eq}
use Rattle.sc_base.specs.Numbers.{insert_key}
use Rattle.sc_base.specs.declared.pos.Pos.{Pos}
use Rattle.sc_typed.specs.declared.stmt.TStmt.{TStmt}
use Rattle.sc_rules.specs.declared.walk.Walk.{Walk}
use Rattle.sc_base.specs.declared.skip.IllTyped.TheVariants as i
use Rattle.sc_rules.specs.Faults.{ill_typed_at}
use Rattle.sc_rules.specs.Walks.{Check, then_with, holds_or}
use Rattle.sc_statements.specs.declared.choices.Choice.{Choice}
use Rattle.sc_statements.specs.declared.choices.Choice.TheVariants as choice
use Rattle.sc_statements.specs.Choices.{same_choice, choice_of, new_choice, seen_with, choices_differ}
use Rattle.sc_statements.specs.Seen.{key_of, choice_at, kept_with, kept_if, differ_from}

-- The set of keys.

same_key : (c : Choice) (k : Option ℕ) → option_eq nat_eq (key_of c) k ≡ same_choice c (choice_at k)
same_key (choice.Number n) None = refl
same_key (choice.Number n) (Some m) = refl
same_key choice.Otherwise None = refl
same_key choice.Otherwise (Some m) = refl

choice_of_key : (c : Choice) → choice_at (key_of c) ≡ c
choice_of_key (choice.Number n) = refl
choice_of_key choice.Otherwise = refl

pub any_key : (c : Choice) (ks : List (Option ℕ)) → list_any (option_eq nat_eq (key_of c)) ks ≡ list_any (same_choice c) (map choice_at ks)
any_key c [] = refl
any_key c (k ∷ ks) =
    ap (λ b. b || list_any (option_eq nat_eq (key_of c)) ks) (same_key c k)
    ∙ ap (λ b. same_choice c (choice_at k) || b) (any_key c ks)

added_by : (b : Bool) (c : Choice) (ks : List (Option ℕ)) → map choice_at (if b then ks else ks ++ key_of c ∷ []) ≡ (if b then map choice_at ks else map choice_at ks ++ c ∷ [])
added_by true c ks = refl
added_by false c ks = map-append choice_at ks (key_of c ∷ []) ∙ ap (λ d. map choice_at ks ++ d ∷ []) (choice_of_key c)

-- a key put behind the others is the choice put behind the others
pub key_added : (c : Choice) (ks new : List (Option ℕ)) → new ≡ insert_key (option_eq nat_eq) ks (key_of c) → map choice_at new ≡ kept_with c (map choice_at ks)
key_added c ks new is =
    ap (map choice_at) is ∙ added_by (list_any (option_eq nat_eq (key_of c)) ks) c ks
    ∙ ap (λ b. if b then map choice_at ks else map choice_at ks ++ c ∷ []) (any_key c ks)

-- What is kept has the same choices as what was seen.

abbrev pub SameChoices : (seen kept : List Choice) → Type 0
SameChoices seen kept = (c : Choice) → list_any (same_choice c) seen ≡ list_any (same_choice c) kept

or_swap : (a b c : Bool) → (a || (b || c)) ≡ (b || (a || c))
or_swap true true c = refl
or_swap true false c = refl
or_swap false true c = refl
or_swap false false c = refl

any_behind : (t : Choice → Bool) (xs : List Choice) (c : Choice) → list_any t (xs ++ c ∷ []) ≡ (t c || list_any t xs)
any_behind t [] c = refl
any_behind t (x ∷ xs) c = ap (λ b. t x || b) (any_behind t xs c) ∙ or_swap (t x) (t c) (list_any t xs)

same_is : (d c : Choice) → same_choice d c ≡ true → d ≡ c
same_is (choice.Number m) (choice.Number n) h = ap (λ (k : ℕ). choice.Number k) (eqb-true m n h)
same_is (choice.Number m) choice.Otherwise h = absurd (false≢true h)
same_is choice.Otherwise (choice.Number n) h = absurd (false≢true h)
same_is choice.Otherwise choice.Otherwise h = refl

known_by : (b : Bool) (d c : Choice) (kept : List Choice) → same_choice d c ≡ b → list_any (same_choice c) kept ≡ true → list_any (same_choice d) kept ≡ (b || list_any (same_choice d) kept)
known_by true d c kept same known = rw (same_is d c same) known
known_by false d c kept same known = refl

kept_by : (b : Bool) (d c : Choice) (kept : List Choice) → list_any (same_choice c) kept ≡ b → list_any (same_choice d) (if b then kept else kept ++ c ∷ []) ≡ (same_choice d c || list_any (same_choice d) kept)
kept_by true d c kept known = known_by (same_choice d c) d c kept refl known
kept_by false d c kept known = any_behind (same_choice d) kept c

keeps_same : (x : Option (Choice × Pos)) (seen kept : List Choice) → SameChoices seen kept → SameChoices (seen_with x seen) (kept_if x kept)
keeps_same None seen kept same = same
keeps_same (Some (c, at)) seen kept same = λ d. ap (λ b. same_choice d c || b) (same d) ∙ sym (kept_by (list_any (same_choice c) kept) d c kept refl)

judged_same : (x : Option (Choice × Pos)) (seen kept : List Choice) → SameChoices seen kept → (w : Walk) → new_choice x seen w ≡ new_choice x kept w
judged_same None seen kept same w = refl
judged_same (Some (c, at)) seen kept same w = ap (λ b. holds_or (not b) (ill_typed_at i.Constant at) w) (same c)

then_same : (r : Bool × Walk) (f g : Check Bool) → ((w : Walk) → f w ≡ g w) → then_with r (λ _. f) ≡ then_with r (λ _. g)
then_same (b, w) f g same = same w

pub differ_same : (ss : List (Option TStmt)) (seen kept : List Choice) → SameChoices seen kept → (w : Walk) → choices_differ ss seen w ≡ differ_from ss kept w
differ_same [] seen kept same w = refl
differ_same (s ∷ ss) seen kept same w =
    ap (λ r. then_with r (λ _. choices_differ ss (seen_with (choice_of s) seen))) (judged_same (choice_of s) seen kept same w)
    ∙ then_same (new_choice (choice_of s) kept w) (choices_differ ss (seen_with (choice_of s) seen)) (differ_from ss (kept_if (choice_of s) kept))
    (differ_same ss (seen_with (choice_of s) seen) (kept_if (choice_of s) kept) (keeps_same (choice_of s) seen kept same))
