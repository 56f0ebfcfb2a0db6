-- What a shown run is shown for: its choice is the least one whose run answers yes.
use Rattle.std.specs.Prelude.{◌≡◌, ℕ, List, [], ◌∷◌, map}
use Rattle.sum_rows.specs.declared.row.State.{State}
use Rattle.sum_rows.specs.declared.row.Gives.{Gives}
use Rattle.sum_rows.specs.declared.report.Shown.{Shown}
use Rattle.sum_rows.specs.declared.report.Report.{Report}
use Rattle.sum_rows.specs.declared.report.Report.TheVariants as report
use Rattle.sc_world.specs.Source.{Source}
use Rattle.sc_world.specs.Known.{row}
use Rattle.sc_world.specs.Paths.{Texts, path_of}
use Rattle.sc_world.specs.Choices.{IsLeast}
use Rattle.sc_world.specs.Shows.{Query, Locks, Errs, Leaks}
use Rattle.sc_world.specs.Verdict.{shows, shown_over, run_over, machine_states, error_row, answers}

pub record IsShownFor (s : Source) (x : Texts) (q : Query) (r : Shown) : Type 0 where
  -- its choice is the least one of the defined length whose run answers yes
  pub least : IsLeast x.layout.bits (shows s x q) r.choice
  -- and it is the run of that choice
  pub run : r ≡ shown_over x (run_over s x.layout r.choice)

-- each run is shown for its question
abbrev pub AreShownFor : Source → Texts → List Query → List Shown → Type 0
AreShownFor s x [] [] = Unit {0}
AreShownFor s x (q ∷ qs) (r ∷ rs) = IsShownFor s x q r × AreShownFor s x qs rs
AreShownFor s x _ _ = ⊥

-- the rows of an error of a location from each state
abbrev pub error_queries : Source → Texts → (at given : ℕ) → List Query
error_queries s x at given = map (λ b. Locks at (error_row s x (answers s x) given b)) (machine_states s)

-- what the runs of a report are shown for
abbrev pub IsRightReport : Source → Texts → Report → Type 0
IsRightReport s x (report.Double p rs) =
    (at : ℕ) × (given : ℕ) × (p ≡ path_of x.layout at) × AreShownFor s x (error_queries s x at given) rs
IsRightReport s x (report.Ambiguous p one other) =
    (at : ℕ) × (given : ℕ) × (before : State) × (result : Gives) × (a : State) × (b : State) × (p ≡ path_of x.layout at)
    × IsShownFor s x (Locks at (row given before result a)) one × IsShownFor s x (Locks at (row given before result b)) other
IsRightReport s x (report.Inner r) = (text : List ℕ) × IsShownFor s x (Errs text) r
IsRightReport s x (report.Leak p r) = IsShownFor s x (Leaks p) r
