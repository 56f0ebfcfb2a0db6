-- The tokens of an array: those of its values between brackets.
use Rattle.std.proofs.Common.{◌≡◌, ◌≤◌, ℕ, ◌+◌, List, [], ◌∷◌, ◌++◌, length, map, take, refl, sym, ap, ◌∙◌, append_assoc, append-nil, zero-add, arith}
use Rattle.std.proofs.lemmas.List.{take_all}
use Rattle.std.specs.List.{flat_map, range_with_len}
use Rattle.std.proofs.lemmas.Grind.{flat_map-append}
use Rattle.std.proofs.lemmas.List.FromFn.{map-range_with_len_more}
use Rattle.json.specs.Token.{Token, begin_array, end_array}
use Rattle.json.specs.Json.{Json}
use Rattle.json.specs.Tree.{json_tokens, items_tokens}
use Rattle.json_text.specs.Values.{items_of, array_of}
use Rattle.json_places.specs.Arrays.{array_by, tokens_by}

items_tokens_of : (vs : List Json) → items_tokens (items_of vs) ≡ flat_map json_tokens vs ++ end_array ∷ []
items_tokens_of [] = refl
items_tokens_of (v ∷ vs) =
    ap (λ ts. json_tokens v ++ ts) (items_tokens_of vs) ∙ sym (append_assoc (json_tokens v) (flat_map json_tokens vs) (end_array ∷ []))

mapped_tokens : {X : Type 0} (value : X → Json) (xs : List X) → flat_map json_tokens (map value xs) ≡ tokens_by value xs
mapped_tokens value [] = refl
mapped_tokens value (x ∷ xs) = ap (λ ts. json_tokens (value x) ++ ts) (mapped_tokens value xs)

-- values between brackets, each of its own thing
pub array_tokens : {X : Type 0} (value : X → Json) (xs : List X)
    → json_tokens (array_by value xs) ≡ (begin_array ∷ []) ++ (tokens_by value xs ++ end_array ∷ [])
unfolding array_by
array_tokens value xs =
    ap (λ ts. begin_array ∷ ts) (items_tokens_of (map value xs) ∙ ap (λ ts. ts ++ end_array ∷ []) (mapped_tokens value xs))

-- the same behind some tokens, written one by one up to the end
pub array_behind : {X : Type 0} (value : X → Json) (xs : List X) (i : ℕ) (before so_far after : List Token) → length xs ≤ i
    → so_far ≡ (before ++ begin_array ∷ []) ++ tokens_by value (take i xs) → after ≡ so_far ++ end_array ∷ []
    → after ≡ before ++ json_tokens (array_by value xs)
array_behind value xs i before so_far after past e f =
    f ∙ ap (λ ts. ts ++ end_array ∷ []) (e ∙ ap (λ ys. (before ++ begin_array ∷ []) ++ tokens_by value ys) (take_all i xs past))
    ∙ append_assoc (before ++ begin_array ∷ []) (tokens_by value xs) (end_array ∷ [])
    ∙ append_assoc before (begin_array ∷ []) (tokens_by value xs ++ end_array ∷ [])
    ∙ ap (λ ts. before ++ ts) (sym (array_tokens value xs))

-- the same of values that are there already
pub list_behind : (vs : List Json) (before so_far after : List Token) → so_far ≡ (before ++ begin_array ∷ []) ++ flat_map json_tokens vs
    → after ≡ so_far ++ end_array ∷ [] → after ≡ before ++ json_tokens (array_of vs)
list_behind vs before so_far after e f =
    f ∙ ap (λ ts. ts ++ end_array ∷ []) e ∙ append_assoc (before ++ begin_array ∷ []) (flat_map json_tokens vs) (end_array ∷ [])
    ∙ append_assoc before (begin_array ∷ []) (flat_map json_tokens vs ++ end_array ∷ [])
    ∙ ap (λ ts. before ++ begin_array ∷ ts) (sym (items_tokens_of vs))

-- the values of numbers in their order, and one more
pub range_step : (value : ℕ → Json) (n : ℕ) (before so_far after : List Token)
    → so_far ≡ before ++ flat_map json_tokens (map value (range_with_len 0 n)) → after ≡ so_far ++ json_tokens (value n)
    → after ≡ before ++ flat_map json_tokens (map value (range_with_len 0 (n + 1)))
range_step value n before so_far after e f =
    let now = map value (range_with_len 0 n) in
    let more : flat_map json_tokens (map value (range_with_len 0 (n + 1))) ≡ flat_map json_tokens now ++ json_tokens (value n) =
    ap (flat_map json_tokens) (map-range_with_len_more value 0 n n (zero-add n))
    ∙ flat_map-append json_tokens now (value n ∷ [])
    ∙ ap (λ ts. flat_map json_tokens now ++ ts) (append-nil (json_tokens (value n)))
    in
    f ∙ ap (λ ts. ts ++ json_tokens (value n)) e ∙ append_assoc before (flat_map json_tokens now) (json_tokens (value n))
    ∙ ap (λ ts. before ++ ts) (sym more)

-- up to a count, and the bracket that closes
pub range_behind : (value : ℕ → Json) (count i : ℕ) (before so_far after : List Token) → count ≤ i → i ≤ count
    → so_far ≡ (before ++ begin_array ∷ []) ++ flat_map json_tokens (map value (range_with_len 0 i)) → after ≡ so_far ++ end_array ∷ []
    → after ≡ before ++ json_tokens (array_by value (range_with_len 0 count))
unfolding array_by
range_behind value count i before so_far after low high e f =
    let same : i ≡ count = omega (arith, low, high) in
    list_behind (map value (range_with_len 0 count)) before so_far after
    (e ∙ ap (λ n. (before ++ begin_array ∷ []) ++ flat_map json_tokens (map value (range_with_len 0 n))) same) f
