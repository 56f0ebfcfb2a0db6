-- The first of several values, and the number of the first element that passes a test.
use Rattle.std.specs.Prelude.{ℕ, ◌+◌, Bool, true, false, Option, Some, None, List, [], ◌∷◌, if◌then◌else◌}

abbrev pub or_else : {A : Type 0} → Option A → Option A → Option A
or_else None b = b
or_else (Some a) b = Some a

abbrev pub some_if : {A : Type 0} → Bool → A → Option A
some_if true a = Some a
some_if false a = None

-- the number of the first element that passes, the first of them having the number k
abbrev pub first_of : {A : Type 0} → (A → Bool) → ℕ → List A → Option ℕ
first_of test k [] = None
first_of test k (x ∷ xs) = if test x then Some k else first_of test (k + 1) xs

abbrev pub number_or : Option ℕ → ℕ → ℕ
number_or None n = n
number_or (Some m) n = m
