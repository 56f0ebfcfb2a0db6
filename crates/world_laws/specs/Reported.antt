-- That a report stands.
use Rattle.std.specs.Prelude.{◌≡◌, ℕ, List, Contains}
use Rattle.sc_base.specs.declared.pos.Pos.{Pos}
use Rattle.sum_rows.specs.declared.report.Report.{Report}
use Rattle.sum_rows.specs.declared.report.Report.TheVariants as report
use Rattle.sc_world.specs.Source.{Source}
use Rattle.sc_world.specs.Paths.{Texts, path_of}
use Rattle.sc_world.specs.Shows.{Errs, Leaks}
use Rattle.sc_world.specs.Verdict.{reports, answers}
use Rattle.world_laws.specs.Shown.{IsShownFor}

-- one of the reports of the function is such
abbrev pub HasReport : Source → Texts → (Report → Type 0) → Type 0
HasReport s x P = (r : Report) × Contains (reports s x (answers s x)) r × P r

abbrev pub IsDoubleAt : Texts → ℕ → Report → Type 0
IsDoubleAt x at (report.Double p rs) = p ≡ path_of x.layout at
IsDoubleAt x at _ = ⊥

abbrev pub IsAmbiguousAt : Texts → ℕ → Report → Type 0
IsAmbiguousAt x at (report.Ambiguous p one other) = p ≡ path_of x.layout at
IsAmbiguousAt x at _ = ⊥

abbrev pub IsInnerOf : Source → Texts → List ℕ → Report → Type 0
IsInnerOf s x text (report.Inner r) = IsShownFor s x (Errs text) r
IsInnerOf s x text _ = ⊥

abbrev pub IsLeakAt : Source → Texts → Pos → Report → Type 0
IsLeakAt s x p (report.Leak q r) = (q ≡ p) × IsShownFor s x (Leaks p) r
IsLeakAt s x p _ = ⊥
