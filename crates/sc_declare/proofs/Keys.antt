-- The keys of globals as the index by hash holds them: as pairs of the number of a name and of a file.
use Rattle.std.proofs.Common.{◌≡◌, ℕ, ◌+◌, Bool, true, false, not, ◌||◌, ◌&&◌, cond, List, [], ◌∷◌, ◌++◌, map, take, length, Option, Some, None, is_some, nat_eq, if◌then◌else◌, refl, sym, ◌∙◌, ap, arith}
use Rattle.std.proofs.lemmas.List.{length-map, map-append, take-map}
use Rattle.std.specs.List.{list_any, position_or_len}
use Rattle.std.specs.Option.{option_eq}
use Rattle.sc_base.specs.Numbers.{insert_key}
use Rattle.sc_tree.specs.declared.ctype.CType.{CType}
use Rattle.sc_typed.specs.declared.program.Global.{Global}
use Rattle.sc_typed.specs.Types.{same_length}
use Rattle.sc_rules.specs.declared.walk.GlobalKey.{GlobalKey}
use Rattle.sc_declare.specs.Numbers.{is_key, key_at, key_of, keys_of, place_of, with_key}
use Rattle.sc_declare.specs.Linkage.{number_of, same_key, with_global}

abbrev Pair : Type 0
Pair = ℕ × Option ℕ

abbrev pub same_pair : Pair → Pair → Bool
same_pair x y = nat_eq x.0 y.0 && option_eq nat_eq x.1 y.1

abbrev pub pair_of : GlobalKey → Pair
pair_of k = (k.name.at, k.file)

same_file : (a b : Option ℕ) → option_eq nat_eq a b ≡ same_length a b
same_file None None = refl
same_file None (Some n) = refl
same_file (Some m) None = refl
same_file (Some m) (Some n) = refl

is_key_at : (k : GlobalKey) (p : Pair) → same_pair (pair_of k) p ≡ is_key k (key_at p)
is_key_at k p = ap (λ b. nat_eq k.name.at p.0 && b) (same_file k.file p.1)

pub any_at : (k : GlobalKey) (ps : List Pair) → list_any (same_pair (pair_of k)) ps ≡ list_any (is_key k) (map key_at ps)
any_at k [] = refl
any_at k (p ∷ ps) =
    ap (λ b. b || list_any (same_pair (pair_of k)) ps) (is_key_at k p) ∙ ap (λ b. is_key k (key_at p) || b) (any_at k ps)

pub place_at : (k : GlobalKey) (ps : List Pair) → position_or_len (same_pair (pair_of k)) ps ≡ place_of k (map key_at ps)
place_at k [] = refl
place_at k (p ∷ ps) =
    ap (λ b. cond (not b) (1 + position_or_len (same_pair (pair_of k)) ps) 0) (is_key_at k p)
    ∙ ap (λ n. cond (not (is_key k (key_at p))) (1 + n) 0) (place_at k ps)

added_by : (b : Bool) (ps : List Pair) (k : GlobalKey) → map key_at (if b then ps else ps ++ pair_of k ∷ []) ≡ (if b then map key_at ps else map key_at ps ++ k ∷ [])
added_by true ps k = refl
added_by false ps k = map-append key_at ps (pair_of k ∷ [])

-- a pair put behind the others is the key put behind the others
pub key_added : (ps new : List Pair) (k : GlobalKey) → new ≡ insert_key same_pair ps (pair_of k) → map key_at new ≡ with_key (map key_at ps) k
key_added ps new k is =
    ap (map key_at) is ∙ added_by (list_any (same_pair (pair_of k)) ps) ps k ∙ ap (λ b. if b then map key_at ps else map key_at ps ++ k ∷ []) (any_at k ps)

pub keys_kept : (n : ℕ) (ps new : List Pair) → new ≡ take n ps → map key_at new ≡ take n (map key_at ps)
keys_kept n ps new is = ap (map key_at) is ∙ sym (take-map key_at n ps)

-- The keys of a list of globals say which of them has a key.

pub any_of : (k : GlobalKey) (gs : List Global) → list_any (is_key k) (keys_of gs) ≡ list_any (same_key k) gs
any_of k [] = refl
any_of k (g ∷ gs) = ap (λ b. same_key k g || b) (any_of k gs)

pub place_is : (k : GlobalKey) (gs : List Global) → place_of k (keys_of gs) ≡ number_of k gs
place_is k [] = refl
place_is k (g ∷ gs) = ap (λ n. cond (not (same_key k g)) (1 + n) 0) (place_is k gs)

pub keys_push : (gs : List Global) (g : Global) → keys_of (gs ++ g ∷ []) ≡ keys_of gs ++ key_of g ∷ []
keys_push gs g = map-append key_of gs (g ∷ [])

-- The numbers that stand beside a walk have the keys of its globals.

known_is : (k : GlobalKey) (ks : List GlobalKey) (gs : List Global) → ks ≡ keys_of gs → list_any (is_key k) ks ≡ list_any (same_key k) gs
known_is k ks gs tied = ap (list_any (is_key k)) tied ∙ any_of k gs

pub known : (k : GlobalKey) (ks : List GlobalKey) (gs : List Global) (t : CType) → ks ≡ keys_of gs → list_any (is_key k) ks ≡ true → gs ≡ with_global gs k t
known k ks gs t tied is = let there : list_any (same_key k) gs ≡ true = sym (known_is k ks gs tied) ∙ is in rw there refl

pub fresh : (k : GlobalKey) (ks : List GlobalKey) (gs : List Global) (t : CType) → ks ≡ keys_of gs → list_any (is_key k) ks ≡ false → gs ++ record { name = k.name; ctype = t; file = k.file } ∷ [] ≡ with_global gs k t
fresh k ks gs t tied is = let none : list_any (same_key k) gs ≡ false = sym (known_is k ks gs tied) ∙ is in rw none refl

pub fresh_tied : (k : GlobalKey) (ks : List GlobalKey) (gs : List Global) (t : CType) → ks ≡ keys_of gs → list_any (is_key k) ks ≡ false → with_key ks k ≡ keys_of (gs ++ record { name = k.name; ctype = t; file = k.file } ∷ [])
fresh_tied k ks gs t tied is = rw is (ap (λ x. x ++ k ∷ []) tied ∙ sym (keys_push gs (record { name = k.name; ctype = t; file = k.file })))

pub number_is : (k : GlobalKey) (ks : List GlobalKey) (gs : List Global) → ks ≡ keys_of gs → place_of k ks ≡ number_of k gs
number_is k ks gs tied = ap (place_of k) tied ∙ place_is k gs
