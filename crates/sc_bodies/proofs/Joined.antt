-- Items that a loop types, one after the other.
use Rattle.std.proofs.Common.{◌≡◌, List, [], ◌∷◌, ◌++◌, ap, append_assoc}
use Rattle.sc_rules.specs.declared.walk.Walk.{Walk}
use Rattle.sc_rules.specs.Walks.{then_with, done}

-- the items so far, and those still to come
abbrev pub joined : {A : Type 0} → List A → List A × Walk → List A × Walk
joined xs (ys, w) = (xs ++ ys, w)

pub joined_step : {A : Type 0} (xs : List A) (x : A) (r : List A × Walk)
    → joined (xs ++ x ∷ []) r ≡ joined xs (then_with r (λ ys. done (x ∷ ys)))
joined_step xs x (ys, w) = ap (λ zs. (zs, w)) (append_assoc xs (x ∷ []) ys)
