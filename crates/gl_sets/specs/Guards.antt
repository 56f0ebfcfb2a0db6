-- A guarded set is a list of pairs, each a gate and a target. For a choice it points to the target whose gate, its guard, holds.
-- v is any assignment of values to gates; where it is a run of the net, these are the values of the gates for a choice.
use Rattle.std.specs.Prelude.{◌≡◌, ℕ, ◌+◌, max, Bool, true, false, not, ◌&&◌, ◌||◌, nat_eq, List, [], ◌∷◌, if◌then◌else◌}
use Rattle.bit_net.specs.declared.nodes.Gate.{Gate}
use Rattle.gl_sets.specs.declared.pairs.Pair.{Pair}

-- the targets whose guards hold
unfoldable pub held : (v : ℕ → Bool) → List Pair → List ℕ
held v [] = []
held v (p ∷ ps) = if v p.guard.at then p.target ∷ held v ps else held v ps

-- exactly one guard holds, and it is that of this target
pub record Points (v : ℕ → Bool) (ps : List Pair) (target : ℕ) : Type 0 where
  pub one : held v ps ≡ target ∷ []

-- the value of the guard of a target, false where no pair has the target
unfoldable pub guard : (v : ℕ → Bool) → List Pair → (target : ℕ) → Bool
guard v [] t = false
guard v (p ∷ ps) t = (nat_eq p.target t && v p.guard.at) || guard v ps t

-- some pair has the target
unfoldable pub has_target : List Pair → (target : ℕ) → Bool
has_target [] t = false
has_target (p ∷ ps) t = nat_eq p.target t || has_target ps t

-- no two pairs have one target
unfoldable pub targets_differ : List Pair → Bool
targets_differ [] = true
targets_differ (p ∷ ps) = not (has_target ps p.target) && targets_differ ps

-- one more than the greatest guard, 0 for no pairs
unfoldable pub guards_top : List Pair → ℕ
guards_top [] = 0
guards_top (p ∷ ps) = max (p.guard.at + 1) (guards_top ps)

-- the targets of the pairs, in order
unfoldable pub targets_of : List Pair → List ℕ
targets_of [] = []
targets_of (p ∷ ps) = p.target ∷ targets_of ps

-- the pairs with other targets, in order
unfoldable pub with_targets : List Pair → List ℕ → List Pair
with_targets [] ts = []
with_targets (p ∷ ps) [] = []
with_targets (p ∷ ps) (t ∷ ts) = record p { target = t } ∷ with_targets ps ts

-- whether some guard holds with the test at its place
unfoldable pub tested : (v : ℕ → Bool) → List Pair → (tests : List Gate) → Bool
tested v [] gs = false
tested v (p ∷ ps) [] = false
tested v (p ∷ ps) (g ∷ gs) = (v p.guard.at && v g.at) || tested v ps gs

-- each test has the value of f at the target of its pair
abbrev pub Tests : (v : ℕ → Bool) → List Pair → (tests : List Gate) → (ℕ → Bool) → Type 0
Tests v [] [] f = Unit {0}
Tests v (p ∷ ps) (g ∷ gs) f = (v g.at ≡ f p.target) × Tests v ps gs f
Tests v _ _ f = ⊥
