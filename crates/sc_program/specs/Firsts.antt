-- The first item of a list that passes a test.
use Rattle.std.specs.Prelude.{ℕ, ◌+◌, Bool, Option, Some, None, List, [], ◌∷◌, if◌then◌else◌}

abbrev pub or_else : {A : Type 0} → Option A → Option A → Option A
or_else None b = b
or_else (Some a) b = Some a

-- its number, where the first of the list has the number k
abbrev pub number_where : {A : Type 0} → (A → Bool) → (k : ℕ) → List A → Option ℕ
number_where test k [] = None
number_where test k (x ∷ xs) = if test x then Some k else number_where test (k + 1) xs
