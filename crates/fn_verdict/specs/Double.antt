-- Errors from every state.
use Rattle.std.specs.Prelude.{ℕ, Bool, List}
use Rattle.std.specs.List.{list_all}
use Rattle.sum_rows.specs.declared.row.Row.{Row}
use Rattle.sum_rows.specs.declared.row.State.{State}
use Rattle.sum_rows.specs.declared.row.State.TheVariants as state
use Rattle.sum_rows.specs.declared.row.Gives.TheVariants as gives
use Rattle.sc_world.specs.Known.{row}
use Rattle.sc_world.specs.Shows.{Locks}
use Rattle.sc_world.specs.Verdict.{Answers}

abbrev pub error_row : ℕ → State → Row
error_row c b = row c b gives.Nothing state.Bad

-- from each of the states an operation may err
abbrev pub errs_from_all : Answers → ℕ → List State → ℕ → Bool
errs_from_all q at states c = list_all (λ b. q.some (Locks at (error_row c b))) states
