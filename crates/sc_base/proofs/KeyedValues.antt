-- Values under keys as two lists side by side.
use Rattle.std.proofs.Common.{◌≡◌, Bor, ℕ, ◌+◌, ◌≤◌, zero, suc, Bool, true, false, not, ◌||◌, cond, Option, Some, None, is_some, List, [], ◌∷◌, ◌++◌, length, slice_get, if◌then◌else◌, refl, sym, ◌∙◌, ap, arith}
use Rattle.std.proofs.lemmas.Option.{slice_get_read}
use Rattle.std.specs.List.{list_any, position_or_len, zip}
use Rattle.std.specs.Map.{lookup}
use Rattle.std.specs.Option.{option_copied}
use Rattle.std.specs.Slice.{IsItemAt}
use Rattle.sc_base.specs.Numbers.{insert_key, insert_pair}

there_by : {V : Type 0} (b : Bool) (v : V) (rest : Option V) (any : Bool) → is_some rest ≡ any → is_some (cond b (Some v) rest) ≡ (b || any)
there_by true v rest any is = refl
there_by false v rest any is = is

pub value_there : {K V : Type 0} (test : K → Bool) (ks : List K) (vs : List V) → length ks ≡ length vs → is_some (lookup test (zip ks vs)) ≡ list_any test ks
value_there test [] vs many = refl
value_there test (k ∷ ks) [] many = absurd (omega arith)
value_there test (k ∷ ks) (v ∷ vs) many = there_by (test k) v (lookup test (zip ks vs)) (list_any test ks) (value_there test ks vs (omega arith))

value_by : {V : Type 0} (b : Bool) (n : ℕ) (v : V) (vs : List V) (rest : Option V) → slice_get vs n ≡ rest → slice_get (v ∷ vs) (cond (not b) (1 + n) 0) ≡ cond b (Some v) rest
value_by true n v vs rest is = refl
value_by false n v vs rest is = let next : 1 + n ≡ suc n = omega arith in rw next is

-- the value at the number of a key is the one under the key
pub value_at : {K V : Type 0} (test : K → Bool) (ks : List K) (vs : List V) → length ks ≡ length vs → slice_get vs (position_or_len test ks) ≡ lookup test (zip ks vs)
value_at test [] [] many = refl
value_at test [] (v ∷ vs) many = absurd (omega arith)
value_at test (k ∷ ks) [] many = absurd (omega arith)
value_at test (k ∷ ks) (v ∷ vs) many = value_by (test k) (position_or_len test ks) v vs (lookup test (zip ks vs)) (value_at test ks vs (omega arith))

pub zip_behind : {K V : Type 0} (ks : List K) (vs : List V) (k : K) (v : V) → length ks ≡ length vs → zip (ks ++ k ∷ []) (vs ++ v ∷ []) ≡ zip ks vs ++ (k, v) ∷ []
zip_behind [] [] k v many = refl
zip_behind [] (w ∷ vs) k v many = absurd (omega arith)
zip_behind (h ∷ ks) [] k v many = absurd (omega arith)
zip_behind (h ∷ ks) (w ∷ vs) k v many = ap (λ es. (h, w) ∷ es) (zip_behind ks vs k v (omega arith))

-- what a look-up by number lends is the item there

none_past : {V : Type 0} (xs : List V) (i : ℕ) → length xs ≤ i → slice_get xs i ≡ None
none_past [] i past = refl
none_past (x ∷ xs) zero past = absurd (omega (arith, past))
none_past (x ∷ xs) (suc i) past = none_past xs i (omega (arith, past))

pub item_is : {V : Type 0} (xs : List V) (i : ℕ) (r : Option (Bor V)) → IsItemAt xs i r → option_copied r ≡ slice_get xs i
item_is xs i None at = sym (none_past xs i at.3)
item_is xs i (Some x) at = sym (slice_get_read xs (length xs) i x.now refl at.3.0 at.1)
