-- The order in which rows are printed: by entry bits, then by the state before, then by the result, then by the state
-- after.
use Rattle.std.specs.Prelude.{◌≡◌, ℕ, ◌<◌, ◌⊎◌}
use Rattle.sum_rows.specs.declared.row.Row.{Row}
use Rattle.sum_rows.specs.declared.row.State.{State}
use Rattle.sum_rows.specs.declared.row.State.TheVariants as state
use Rattle.sum_rows.specs.declared.row.Gives.{Gives}
use Rattle.sum_rows.specs.declared.row.Gives.TheVariants as gives

-- the states of a machine stand by their numbers behind Nil, and before all others
abbrev pub class_of : State → ℕ
class_of state.Nil = 0
class_of (state.At n) = 1
class_of state.Bad = 2
class_of state.Held = 3
class_of state.Escaped = 4
class_of state.Freed = 5
class_of state.Null = 6
class_of state.Fresh = 7
class_of state.Other = 8
class_of state.Same = 9

abbrev pub number_of : State → ℕ
number_of (state.At n) = n
number_of _ = 0

abbrev pub IsStateBefore : State → State → Type 0
IsStateBefore a b = (class_of a < class_of b) ⊎ ((class_of a ≡ class_of b) × (number_of a < number_of b))

abbrev pub result_number : Gives → ℕ
result_number gives.Nothing = 0
result_number gives.Zero = 1
result_number gives.NotZero = 2

abbrev pub IsResultBefore : Gives → Gives → Type 0
IsResultBefore a b = result_number a < result_number b

pub data IsRowBefore (a b : Row) : Type 0 where
  by_given : a.given < b.given → IsRowBefore a b
  by_before : a.given ≡ b.given → IsStateBefore a.before b.before → IsRowBefore a b
  by_result : a.given ≡ b.given → a.before ≡ b.before → IsResultBefore a.result b.result → IsRowBefore a b
  by_after : a.given ≡ b.given → a.before ≡ b.before → a.result ≡ b.result → IsStateBefore a.after b.after → IsRowBefore a b
