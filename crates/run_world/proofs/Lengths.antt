-- Lists of types that differ in their length.
use Rattle.std.proofs.Common.{◌≡◌, ℕ, suc, Bool, true, false, ◌&&◌, List, [], ◌∷◌, length, map, refl, ap}
use Rattle.sc_tree.specs.declared.ctype.CType.{CType}
use Rattle.sc_world.specs.Tree.{Ty, same_type, same_types}
use Rattle.sc_world.specs.View.{type, types}

and_false : (b : Bool) → (b && false) ≡ false
and_false true = refl
and_false false = refl

pub lengths_differ : (as' bs : List CType) → (length as' ≡ length bs → ⊥) → false ≡ same_types (types (map type as')) (types (map type bs))
lengths_differ [] [] other = absurd (other refl)
lengths_differ [] (b ∷ bs) other = refl
lengths_differ (a ∷ as') [] other = refl
lengths_differ (a ∷ as') (b ∷ bs) other =
    let rest : false ≡ same_types (types (map type as')) (types (map type bs)) = lengths_differ as' bs (λ e. other (ap suc e)) in
    rw (← rest) (rw (and_false (same_type (type a) (type b))) refl)
