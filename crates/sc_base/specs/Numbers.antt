-- Different keys in the order in which they came. The number of a key is its place, counted from 0.
use Rattle.std.specs.Prelude.{◌≡◌, ℕ, ◌+◌, Bool, false, Option, Some, None, is_some, List, [], ◌∷◌, ◌++◌, if◌then◌else◌}
use Rattle.std.specs.List.{list_any}
use Rattle.std.specs.Map.{lookup}

-- the number of the first key that passes, where the first of all has the number n
abbrev pub number_from : {K : Type 0} → (K → Bool) → ℕ → List K → Option ℕ
number_from test n [] = None
number_from test n (k ∷ ks) = if test k then Some n else number_from test (n + 1) ks

-- the keys with one more behind the others, where it is not there yet
abbrev pub insert_key : {K : Type 0} → (K → K → Bool) → List K → K → List K
insert_key eq ks k = if list_any (eq k) ks then ks else ks ++ k ∷ []

-- no key is equal to one behind it
abbrev pub AreApart : {K : Type 0} → (K → K → Bool) → List K → Type 0
AreApart eq [] = Unit {0}
AreApart eq (k ∷ ks) = (list_any (eq k) ks ≡ false) × AreApart eq ks

-- an index finds the number of each key
pub record IsNumbered {K : Type 0} (eq : K → K → Bool) (index : K → Option ℕ) (ks : List K) : Type 0 where
  pub apart : AreApart eq ks
  pub finds : (q : K) → index q ≡ number_from (eq q) 0 ks

-- keys with their values, and one more behind the others under a key that has none yet
abbrev pub insert_pair : {K V : Type 0} → (K → K → Bool) → List (K × V) → K → V → List (K × V)
insert_pair eq es k v = if is_some (lookup (eq k) es) then es else es ++ (k, v) ∷ []
