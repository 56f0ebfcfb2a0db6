-- Room for the summaries that a function reads is a fact with one proof, so that a value can carry it.
use Rattle.std.specs.Prelude.{ℕ, Option, Some, None}
use Rattle.std.specs.Coded.{×_prop, Unit-prop, le_prop}
use Rattle.sum_rows.specs.declared.row.Summary.{Summary}
use Rattle.sc_world.specs.Source.{Source}
use Rattle.run_paths.specs.Seen.{Fits, FitsAll}

pub fits_prop : (most : ℕ) (sum : Option Summary) → IsProp (Fits most sum)
fits_prop most None = Unit-prop
fits_prop most (Some sum) = ×_prop le_prop le_prop

pub fits_all_prop : (s : Source) (most : ℕ) → IsProp (FitsAll s most)
fits_all_prop s most = hlevel fits_prop
