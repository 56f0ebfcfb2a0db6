-- Entries that are set, and tables that are made of other tables.
use Rattle.std.proofs.Common.{◌≡◌, ℕ, zero, suc, ◌<◌, nat_eq, Bool, true, false, List, [], ◌∷◌, ◌++◌, length, set, if◌then◌else◌, refl, sym, ◌∙◌, ap}
use Rattle.std.proofs.lemmas.Bool.{false≢true, eqb-true, eq-eqb}
use Rattle.std.proofs.lemmas.List.{get_or-set_same, get_or-set_other}
use Rattle.std.specs.Prelude.{slice_index_or}
use Rattle.file_tables.specs.Filled.{Meaning, is_among, own_names, Fills, IsTable, IsRewritten}

-- One empty entry more.

pub entry_behind : {A : Type 0} (none : A) (xs : List A) (n : ℕ) → slice_index_or (xs ++ none ∷ []) n none ≡ slice_index_or xs n none
entry_behind none [] zero = refl
entry_behind none [] (suc n) = refl
entry_behind none (x ∷ xs) zero = refl
entry_behind none (x ∷ xs) (suc n) = entry_behind none xs n

-- An entry that is set.

set_by : {A : Type 0} (b : Bool) (none value : A) (xs : List A) (at n : ℕ) → nat_eq at n ≡ b → at < length xs
    → slice_index_or (set xs at value) n none ≡ (if b then value else slice_index_or xs n none)
set_by true none value xs at n same room =
    ap (λ (k : ℕ). slice_index_or (set xs at value) k none) (sym (eqb-true at n same)) ∙ get_or-set_same xs at value none room
set_by false none value xs at n other room =
    get_or-set_other xs at n value none (λ e. false≢true (sym other ∙ eq-eqb at n (sym e)))

pub entry_set : {A : Type 0} (none value : A) (xs : List A) (at n : ℕ) → at < length xs
    → slice_index_or (set xs at value) n none ≡ (if nat_eq at n then value else slice_index_or xs n none)
entry_set none value xs at n room = set_by (nat_eq at n) none value xs at n refl room

-- The table of one file made that of another.

turned_at : {A : Type 0} (a b : Bool) (m before v u t : A) → t ≡ (if a then m else u) → u ≡ (if b then m else v) → v ≡ before → (b ≡ false → a ≡ false → before ≡ m) → t ≡ m
turned_at true b m before v u t second first is same = second
turned_at false true m before v u t second first is same = second ∙ first
turned_at false false m before v u t second first is same = second ∙ first ∙ is ∙ same refl refl

pub turned : {A : Type 0} (none : A) (own : List (List ℕ)) (means : Meaning A) (g f : ℕ) (table half whole : List A) → IsTable none own means g table
    → IsRewritten none means f (own_names own g) table half → IsRewritten none means f (own_names own f) half whole → IsTable none own means f whole
turned none own means g f table half whole t first second = record {
  filled = λ n. turned_at (is_among n (own_names own f)) (is_among n (own_names own g)) (means f n) (means g n) (slice_index_or table n none) (slice_index_or half n none) (slice_index_or whole n none)
      (second n) (first n) (t.filled n) (t.elsewhere g f n);
  elsewhere = t.elsewhere;
}

-- The first table, of all names that mean something.

pub entry_of_none : {A : Type 0} (none : A) (n : ℕ) → slice_index_or [] n none ≡ none
entry_of_none none zero = refl
entry_of_none none (suc n) = refl

first_at : {A : Type 0} (a : Bool) (m none v t : A) → t ≡ (if a then m else v) → v ≡ none → (a ≡ false → m ≡ none) → t ≡ m
first_at true m none v t is empty nothing = is
first_at false m none v t is empty nothing = is ∙ empty ∙ sym (nothing refl)

pub first_filled : {A : Type 0} (none : A) (means : Meaning A) (f : ℕ) (names : List ℕ) (table : List A) → IsRewritten none means f names [] table
    → ((n : ℕ) → is_among n names ≡ false → means f n ≡ none) → Fills none means f table
first_filled none means f names table is nothing = λ n.
    first_at (is_among n names) (means f n) none (slice_index_or [] n none) (slice_index_or table n none) (is n) (entry_of_none none n) (nothing n)
