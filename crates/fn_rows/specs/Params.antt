-- Parameters that are pointers, by their numbers.
use Rattle.std.specs.Prelude.{ℕ, ◌+◌, nat_lt, ◌&&◌, Bool, List, [], ◌∷◌, ◌++◌, if◌then◌else◌}
use Rattle.sc_world.specs.Tree.{Ty, is_pointer, target_or_void}
use Rattle.fn_rows.specs.declared.params.PointsTo.{PointsTo}
use Rattle.fn_rows.specs.declared.params.PointsTo.TheVariants as to

-- one more of at most three, where it counts
abbrev pub counted : ℕ → Bool → ℕ
counted n b = if nat_lt n 3 && b then n + 1 else n

-- whether a type is a pointer, or a pointer to a pointer
abbrev pub points : PointsTo → Ty → Bool
points to.Anything t = is_pointer t
points to.Pointer t = is_pointer (target_or_void t)

abbrev pub number_if : Bool → ℕ → List ℕ
number_if b k = if b then k ∷ [] else []

-- the numbers of the parameters of such types, the first of them having the number k
abbrev pub pointing : PointsTo → (k : ℕ) → List Ty → List ℕ
pointing p k [] = []
pointing p k (t ∷ ts) = number_if (points p t) k ++ pointing p (k + 1) ts
