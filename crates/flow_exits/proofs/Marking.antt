-- Marks made along a list of nodes.
use Rattle.std.proofs.Common.{◌≡◌, ℕ, zero, suc, Bool, true, false, ◌||◌, replicate, refl}
use Rattle.flow_exits.specs.Marks.{marked}

-- where there are no marks, none is
pub none_marked : (n m : ℕ) → marked (replicate n false) m ≡ false
none_marked zero m = refl
none_marked (suc n) zero = refl
none_marked (suc n) (suc m) = none_marked n m

-- what is marked is marked, first or last
pub filled_first : (a b c : Bool) → ((a || b) || c) ≡ (b || (a || c))
filled_first true true c = refl
filled_first true false c = refl
filled_first false true c = refl
filled_first false false c = refl
