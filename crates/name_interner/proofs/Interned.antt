-- Interned texts: the words on the list of texts, where the code looks at the keys that hold them.
use Rattle.std.proofs.Common.{◌≡◌, ◌+◌, ◌<◌, ℕ, suc, Bool, true, false, not, ◌||◌, ◌&&◌, cond, List, [], ◌∷◌, ◌++◌, map, length, Option, Some, None, is_some, slice_get, refl, sym, ◌∙◌, ap, arith, MatchOption, IfSome, string_bytes, String}
use Rattle.std.proofs.lemmas.Option.{cond_some}
use Rattle.std.proofs.lemmas.List.{length-map, map-append}
use Rattle.std.proofs.lemmas.Slice.Eq.{bytes_eq-Decides}
use Rattle.std.proofs.lemmas.List.Folds.{list_any-append}
use Rattle.std.specs.declared.alloc.Global.{Global}
use Rattle.std.specs.List.{list_any, position_or_len, position}
use Rattle.std.specs.Str.{bytes_eq}
use Rattle.std.proofs.lemmas.Cmp.{nat_list_eq_equiv}
use Rattle.indexmap.specs.IndexSet.{insert_key}
use Rattle.sc_base.specs.Held.{is_named}
use Rattle.sc_base.specs.Names.{place_of, all_different}

abbrev Keys : Type 0
Keys = List (String Global)

list_any-map : (p : List ℕ → Bool) (keys : Keys) → list_any p (map string_bytes keys) ≡ list_any (λ k. p (string_bytes k)) keys
list_any-map p [] = refl
list_any-map p (k ∷ keys) = ap (λ b. p (string_bytes k) || b) (list_any-map p keys)

position_or_len-map : (p : List ℕ → Bool) (keys : Keys) → position_or_len p (map string_bytes keys) ≡ position_or_len (λ k. p (string_bytes k)) keys
position_or_len-map p [] = refl
position_or_len-map p (k ∷ keys) = ap (λ n. cond (not (p (string_bytes k))) (1 + n) 0) (position_or_len-map p keys)

place_step : (text t : List ℕ) (texts : List (List ℕ)) (b : Bool) → bytes_eq text t ≡ b → is_named text (t ∷ texts) ≡ true → (is_named text texts ≡ true → slice_get texts (place_of text texts) ≡ Some text) → slice_get (t ∷ texts) (place_of text (t ∷ texts)) ≡ Some text
place_step text t texts true same named rest = rw same (ap Some (sym ((bytes_eq-Decides text t).0 same)))
place_step text t texts false other named rest =
    let next : 1 + place_of text texts ≡ suc (place_of text texts) = omega arith in
    rw (other, next) (rest (rw other at named))

-- a text that is there stands at its place
pub slice_get-place : (text : List ℕ) (texts : List (List ℕ)) → is_named text texts ≡ true → slice_get texts (place_of text texts) ≡ Some text
slice_get-place text [] named = (cc)
slice_get-place text (t ∷ texts) named = place_step text t texts (bytes_eq text t) refl named (slice_get-place text texts)

absent_step : (text t : List ℕ) (texts : List (List ℕ)) (b : Bool) → bytes_eq text t ≡ b → is_named text (t ∷ texts) ≡ false → (is_named text texts ≡ false → place_of text texts ≡ length texts) → place_of text (t ∷ texts) ≡ length (t ∷ texts)
absent_step text t texts true same absent rest = let no : true ≡ false = rw same at absent in (cc)
absent_step text t texts false other absent rest = rw (other, rest (rw other at absent)) (omega arith)

-- the place of a text that is not there is behind the last
pub place_of-absent : (text : List ℕ) (texts : List (List ℕ)) → is_named text texts ≡ false → place_of text texts ≡ length texts
place_of-absent text [] absent = refl
place_of-absent text (t ∷ texts) absent = absent_step text t texts (bytes_eq text t) refl absent (place_of-absent text texts)

-- the last of a list stands behind the others
pub slice_get-last : (texts : List (List ℕ)) (text : List ℕ) → slice_get (texts ++ text ∷ []) (length texts) ≡ Some text
slice_get-last [] text = refl
slice_get-last (t ∷ texts) text = slice_get-last texts text

both : (a b : Bool) → (a && b) ≡ true → (a ≡ true) × (b ≡ true)
both true b are = (refl, are)
both false b are = (cc)

neither : (a b : Bool) → (a || b) ≡ false → (a ≡ false) × (b ≡ false)
neither false b is = (refl, is)
neither true b is = (cc)

nor : (a b : Bool) → a ≡ false → b ≡ false → (a || (b || false)) ≡ false
nor a b first second = rw (first, second) refl

joined : (a b : Bool) → a ≡ false → b ≡ true → (not a && b) ≡ true
joined a b first second = rw (first, second) refl

negated : (a : Bool) → not a ≡ true → a ≡ false
negated false is = refl
negated true is = (cc)

-- a text that is not there keeps them all different
pub all_different-push : (texts : List (List ℕ)) (text : List ℕ) → all_different texts ≡ true → is_named text texts ≡ false → all_different (texts ++ text ∷ []) ≡ true
all_different-push [] text different absent = refl
all_different-push (t ∷ texts) text different absent =
    let first = both _ _ different in
    let others = neither _ _ absent in
    let flipped : bytes_eq t text ≡ false = nat_list_eq_equiv.symm t text ∙ others.0 in
    let named : is_named t (texts ++ text ∷ []) ≡ false =
    list_any-append (bytes_eq t) texts (text ∷ []) ∙ nor (is_named t texts) (bytes_eq t text) (negated (is_named t texts) first.0) flipped in
    joined (is_named t (texts ++ text ∷ [])) (all_different (texts ++ text ∷ [])) named (all_different-push texts text first.1 others.1)

-- the texts of the keys with one more
pub texts-push : (keys new : Keys) (text : String Global) (bytes : List ℕ) → new ≡ keys ++ text ∷ [] → string_bytes text ≡ bytes → map string_bytes new ≡ map string_bytes keys ++ bytes ∷ []
texts-push keys new text bytes is same = rw (is, map-append, same) refl

-- the keys with a text that is not there
pub insert_key-absent : (keys : Keys) (text : String Global) → is_named (string_bytes text) (map string_bytes keys) ≡ false → insert_key (λ a b. bytes_eq (string_bytes a) (string_bytes b)) keys text ≡ keys ++ text ∷ []
insert_key-absent keys text absent =
    let none : list_any (λ k. bytes_eq (string_bytes text) (string_bytes k)) keys ≡ false = sym (list_any-map (bytes_eq (string_bytes text)) keys) ∙ absent in
    rw none refl

-- and its place
pub insert_index-absent : (keys : Keys) (text : String Global) → is_named (string_bytes text) (map string_bytes keys) ≡ false → position_or_len (λ k. bytes_eq (string_bytes text) (string_bytes k)) keys ≡ length keys
insert_index-absent keys text absent =
    sym (position_or_len-map (bytes_eq (string_bytes text)) keys) ∙ place_of-absent (string_bytes text) (map string_bytes keys) absent ∙ length-map keys string_bytes

-- what the look-up among the keys says of the texts
pub found_among : (text : List ℕ) (keys : Keys) (result : Option ℕ) → result ≡ position (λ k. bytes_eq text (string_bytes k)) keys → is_some result ≡ list_any (λ k. bytes_eq text (string_bytes k)) keys → IfSome result (λ at. at < length keys)
    → MatchOption result (is_named text (map string_bytes keys) ≡ false) (λ at. (is_named text (map string_bytes keys) ≡ true) × (at ≡ place_of text (map string_bytes keys)) × (at < length keys) × (slice_get (map string_bytes keys) at ≡ Some text))
found_among text keys None index found within = list_any-map (bytes_eq text) keys ∙ sym found
found_among text keys (Some at) index found within =
    let named : is_named text (map string_bytes keys) ≡ true = list_any-map (bytes_eq text) keys ∙ sym found in
    let place : place_of text (map string_bytes keys) ≡ at = position_or_len-map (bytes_eq text) keys ∙ (cond_some _ _ _ (sym index)).1 in
    (named, sym place, within, rw (← place) (slice_get-place text (map string_bytes keys) named))
