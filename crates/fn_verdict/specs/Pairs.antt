-- Pairs of rows that differ in the state afterwards alone.
use Rattle.std.specs.Prelude.{ℕ, Bool, ◌&&◌, Option, Some, None, List, [], ◌∷◌, ◌++◌, map}
use Rattle.std.specs.List.{find, flat_map}
use Rattle.sum_rows.specs.declared.row.Row.{Row}
use Rattle.sum_rows.specs.declared.row.State.{State}
use Rattle.sum_rows.specs.declared.row.Gives.{Gives}
use Rattle.sc_world.specs.Known.{row}
use Rattle.sum_rows.specs.declared.report.Report.{Report}
use Rattle.sum_rows.specs.declared.report.Report.TheVariants as report
use Rattle.sc_world.specs.Layout.{Layout}
use Rattle.sc_world.specs.Paths.{path_of}
use Rattle.sc_world.specs.Shows.{Locks}
use Rattle.sc_world.specs.Verdict.{Answers}
use Rattle.fn_verdict.specs.declared.pairs.Pair.{Pair}

abbrev pub first_row : Pair → Row
first_row p = row p.given p.before p.gives p.one

abbrev pub second_row : Pair → Row
second_row p = row p.given p.before p.gives p.other

abbrev pub pair : ℕ → State → Gives → State → State → Pair
pair c b r one other = record { given = c; before = b; gives = r; one = one; other = other }

-- each of the states with each of those behind it
abbrev pub pairs_of : ℕ → State → Gives → List State → List Pair
pairs_of c b r [] = []
pairs_of c b r (a ∷ as') = map (pair c b r a) as' ++ pairs_of c b r as'

abbrev pub pairs : (givens : List ℕ) → (states : List State) → (results : List Gives) → List Pair
pairs cs states rs = flat_map (λ c. flat_map (λ b. flat_map (λ r. pairs_of c b r states) rs) states) cs

-- whether both rows stand
abbrev pub both_stand : Answers → ℕ → Pair → Bool
both_stand q at p = q.some (Locks at (first_row p)) && q.some (Locks at (second_row p))

-- the report of a location, where there is such a pair: with the first of them
abbrev pub ambiguous_for : Layout → Answers → ℕ → Option Pair → List Report
ambiguous_for p q at None = []
ambiguous_for p q at (Some m) =
    report.Ambiguous (path_of p at) (q.shown (Locks at (first_row m))) (q.shown (Locks at (second_row m))) ∷ []

abbrev pub ambiguous : Layout → Answers → List Pair → ℕ → List Report
ambiguous p q ps at = ambiguous_for p q at (find (both_stand q at) ps)
