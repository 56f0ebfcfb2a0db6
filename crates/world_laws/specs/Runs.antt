-- What some run answers, and rows that stand exactly where some run has them.
use Rattle.std.specs.Prelude.{◌≡◌, ◌↔◌, ℕ, ◌<◌, Bool, true, List, length, Result, Ok, Err, Contains}
use Rattle.run_store.specs.Concrete.{Cell}
use Rattle.sum_rows.specs.declared.row.Row.{Row}
use Rattle.sc_world.specs.Source.{Source}
use Rattle.sc_world.specs.Layout.{Location, location}
use Rattle.sc_world.specs.World.{Ended, Error, Inner, Aside}
use Rattle.sc_world.specs.Paths.{Texts}
use Rattle.sc_world.specs.Shows.{Query}
use Rattle.sc_world.specs.Verdict.{shows}

-- some choice of the defined length has a run that answers yes
abbrev pub SomeRun : Source → Texts → Query → Type 0
SomeRun s x q = (c : List Bool) × (length c ≡ x.layout.bits) × (shows s x q c ≡ true)

-- of the candidates exactly those stand that some run has
abbrev pub HasRowsOfRuns : Source → Texts → (Row → Query) → (candidates rows : List Row) → Type 0
HasRowsOfRuns s x query candidates rows = (r : Row) → Contains rows r ↔ (Contains candidates r × SomeRun s x (query r))

-- exactly those rows stand that some run has
abbrev pub HasAllRowsOfRuns : Source → Texts → (Row → Query) → List Row → Type 0
HasAllRowsOfRuns s x query rows = (r : Row) → Contains rows r ↔ SomeRun s x (query r)

-- of the locations that pass exactly those stand of which some run answers yes
abbrev pub HasLocationsOfRuns : Source → Texts → (ℕ → Query) → (Location → Bool) → List ℕ → Type 0
HasLocationsOfRuns s x query test numbers =
    (at : ℕ) → Contains numbers at
    ↔ ((at < length x.layout.locations) × (test (location x.layout at) ≡ true) × SomeRun s x (query at))

-- of the numbers exactly those stand of which some run answers yes
abbrev pub HasNumbersOfRuns : Source → Texts → (ℕ → Query) → (candidates numbers : List ℕ) → Type 0
HasNumbersOfRuns s x query candidates numbers =
    (n : ℕ) → Contains numbers n ↔ (Contains candidates n × SomeRun s x (query n))

-- a run that is not set aside
abbrev pub IsBounded : Result Cell Ended → Type 0
IsBounded (Ok c) = Unit {0}
IsBounded (Err (Error at)) = Unit {0}
IsBounded (Err (Inner at)) = Unit {0}
IsBounded (Err (Aside r)) = ⊥
