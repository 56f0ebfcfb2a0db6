-- Walks along pointers between objects. The pointers are a matrix of gates: row i has a gate for each object, which holds where
-- object i points to that object. v is any assignment of values to gates; where it is a run of the net, these are the values for a choice.
use Rattle.std.specs.Prelude.{◌≡◌, ℕ, zero, suc, ◌+◌, max, Bool, true, false, ◌&&◌, List, [], ◌∷◌, length, Vec}
use Rattle.bit_net.specs.declared.nodes.Gate.{Gate}
use Rattle.std.specs.declared.alloc.Global.{Global}

-- the value of the gate at a place, false past the end
unfoldable pub holds_at : (v : ℕ → Bool) → List Gate → ℕ → Bool
holds_at v [] j = false
holds_at v (g ∷ gs) zero = v g.at
holds_at v (g ∷ gs) (suc j) = holds_at v gs j

-- whether object i points to object j
unfoldable pub pointed : (v : ℕ → Bool) → List (List Gate) → (i j : ℕ) → Bool
pointed v [] i j = false
pointed v (r ∷ rs) zero j = holds_at v r j
pointed v (r ∷ rs) (suc i) j = pointed v rs i j

-- from an object a list of objects, to each of which the one before it points
abbrev pub is_walk : (points : ℕ → ℕ → Bool) → (from : ℕ) → List ℕ → Bool
is_walk points i [] = true
is_walk points i (j ∷ js) = points i j && is_walk points j js

-- the object to which a walk leads
abbrev pub end_of : (from : ℕ) → List ℕ → ℕ
end_of i [] = i
end_of i (j ∷ js) = end_of j js

-- a walk of any length leads to the object from one of the roots
pub record Reached (points : ℕ → ℕ → Bool) (roots : ℕ → Bool) (object : ℕ) : Type 0 where
  pub from : ℕ
  pub walk : List ℕ
  pub root : roots from ≡ true
  pub walks : is_walk points from walk ≡ true
  pub ends : end_of from walk ≡ object

-- the gates of the rows
abbrev pub rows_of : List (Vec Gate Global) → List (List Gate)
rows_of [] = []
rows_of (r ∷ rs) = r.items ∷ rows_of rs

-- each row has this many gates
abbrev pub EachWide : ℕ → List (List Gate) → Type 0
EachWide n [] = Unit {0}
EachWide n (r ∷ rs) = (length r ≡ n) × EachWide n rs

-- one more than the greatest gate
unfoldable pub gates_top : List Gate → ℕ
gates_top [] = 0
gates_top (g ∷ gs) = max (g.at + 1) (gates_top gs)

unfoldable pub rows_top : List (List Gate) → ℕ
rows_top [] = 0
rows_top (r ∷ rs) = max (gates_top r) (rows_top rs)
