-- Steps of typing that declare no variable with linkage.
use Rattle.std.specs.Prelude.{◌≡◌}
use Rattle.sc_rules.specs.declared.walk.Walk.{Walk}
use Rattle.sc_rules.specs.Walks.{Check}

-- a step that leaves the globals of every walk as they are
pub record KeepsGlobals {A : Type 0} (m : Check A) : Type 0 where
  pub kept : (w : Walk) → (m w).1.globals ≡ w.globals
