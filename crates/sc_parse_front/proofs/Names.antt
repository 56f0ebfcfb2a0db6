-- The typedef names as the code keeps them: by their places among the names.
use Rattle.std.proofs.Common.{◌≡◌, ℕ, Bool, true, false, ◌||◌, List, [], ◌∷◌, ◌++◌, map, take, nat_eq, if◌then◌else◌, refl, sym, ◌∙◌, ap}
use Rattle.std.specs.List.{list_any}
use Rattle.std.proofs.lemmas.List.{map-append, take-map}
use Rattle.std.proofs.lemmas.Cmp.{nat_eq_equiv}
use Rattle.sc_base.specs.Numbers.{insert_key}
use Rattle.sc_base.specs.declared.pos.NameId.{NameId}
use Rattle.sc_tree.specs.Tokens.{is_type}
use Rattle.sc_tree.specs.Units.{with_type}
use Rattle.sc_parse_front.specs.TypeNames.{name_at}

pub is_type_at : (keys : List ℕ) (w : NameId) → is_type (map name_at keys) w ≡ list_any (nat_eq w.at) keys
is_type_at [] w = refl
is_type_at (k ∷ keys) w = ap (λ b. b || is_type (map name_at keys) w) (nat_eq_equiv.symm k w.at) ∙ ap (λ b. nat_eq w.at k || b) (is_type_at keys w)

declared_by : (b : Bool) (keys : List ℕ) (w : NameId) → map name_at (if b then keys else keys ++ w.at ∷ [])
    ≡ (if b then map name_at keys else map name_at keys ++ w ∷ [])
declared_by true keys w = refl
declared_by false keys w = map-append name_at keys (w.at ∷ [])

pub name_declared : (keys new : List ℕ) (w : NameId) → new ≡ insert_key nat_eq keys w.at → map name_at new ≡ with_type (map name_at keys) w
name_declared keys new w is =
    ap (map name_at) is ∙ declared_by (list_any (nat_eq w.at) keys) keys w
    ∙ ap (λ b. if b then map name_at keys else map name_at keys ++ w ∷ []) (sym (is_type_at keys w))

pub names_kept : (n : ℕ) (keys new : List ℕ) → new ≡ take n keys → map name_at new ≡ take n (map name_at keys)
names_kept n keys new is = ap (map name_at) is ∙ sym (take-map name_at n keys)
