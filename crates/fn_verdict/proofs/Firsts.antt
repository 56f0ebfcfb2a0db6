-- Loops that end at the first element that passes, or that does not.
use Rattle.std.proofs.Common.{◌≡◌, ℕ, suc, ◌+◌, ◌<◌, Bool, true, false, ◌&&◌, List, [], ◌∷◌, cond, length, drop, drop-cons, add-one, get_or, refl, sym, ap, ◌∙◌}
use Rattle.std.specs.Prelude.{Option, Some, None, filter}
use Rattle.std.specs.List.{find, list_all}
use Rattle.std.proofs.lemmas.Bool.{cond-true, cond-false}

pub at_index : {X : Type 0} (xs : List X) (i : ℕ) (d : X) → i < length xs → drop i xs ≡ get_or xs i d ∷ drop (i + 1) xs
at_index xs i d low = rw add-one (drop-cons xs i d low)

-- the first that passes
pub find_hit : {X : Type 0} (p : X → Bool) (xs : List X) (i : ℕ) (d : X) → i < length xs → p (get_or xs i d) ≡ true
    → find p (drop i xs) ≡ Some (get_or xs i d)
find_hit p xs i d low is = ap (find p) (at_index xs i d low) ∙ cond-true (p (get_or xs i d)) _ _ is

pub find_miss : {X : Type 0} (p : X → Bool) (xs : List X) (i : ℕ) (d : X) → i < length xs → p (get_or xs i d) ≡ false
    → find p (drop (i + 1) xs) ≡ find p (drop i xs)
find_miss p xs i d low is = sym (ap (find p) (at_index xs i d low) ∙ cond-false (p (get_or xs i d)) _ _ is)

-- the first that does not pass
and_false : (b c : Bool) → b ≡ false → (b && c) ≡ false
and_false b c is = ap (λ a. a && c) is

and_true : (b c : Bool) → b ≡ true → (b && c) ≡ c
and_true b c is = ap (λ a. a && c) is

pub all_stop : {X : Type 0} (p : X → Bool) (xs : List X) (i : ℕ) (d : X) → i < length xs → p (get_or xs i d) ≡ false → list_all p (drop i xs) ≡ false
all_stop p xs i d low is = ap (list_all p) (at_index xs i d low) ∙ and_false (p (get_or xs i d)) _ is

pub all_go : {X : Type 0} (p : X → Bool) (xs : List X) (i : ℕ) (d : X) → i < length xs → p (get_or xs i d) ≡ true
    → list_all p (drop (i + 1) xs) ≡ list_all p (drop i xs)
all_go p xs i d low is = sym (ap (list_all p) (at_index xs i d low) ∙ and_true (p (get_or xs i d)) _ is)

pub ruleset find_turn = (find_hit, find_miss)

pub ruleset all_turn = (all_stop, all_go)
