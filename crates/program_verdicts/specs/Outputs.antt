-- What is made for a function of what is made for its callees, for theirs, and so on, in so many steps; `nothing` where
-- the steps run out.
use Rattle.std.specs.Prelude.{ℕ, zero, suc, List, map}

unfoldable pub output : {O : Type 0} → (make : ℕ → List O → O) → (nothing : O) → (kept : ℕ → List ℕ) → (steps : ℕ) → ℕ → O
output make nothing kept zero f = nothing
output make nothing kept (suc more) f = make f (map (output make nothing kept more) (kept f))
