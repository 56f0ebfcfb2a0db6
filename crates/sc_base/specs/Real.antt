-- What contracts see of the files of the system.
use Rattle.std.specs.Prelude.{ℕ, Bool}

-- whether a file is started, and how often a call failed
pub record OpenFiles : Type 0 where
  pub started : Bool
  pub faults : ℕ
