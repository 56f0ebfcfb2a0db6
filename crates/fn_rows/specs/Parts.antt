-- What rows are made of.
use Rattle.std.specs.Prelude.{◌≡◌}
use Rattle.sc_world.specs.Source.{Source}
use Rattle.sc_world.specs.Verdict as spec
use Rattle.fn_rows.specs.declared.parts.Parts.{Parts}

-- these are the parts of the rows of a function
pub record AreParts (s : Source) (p : Parts) : Type 0 where
  pub givens : p.givens.now ≡ spec.givens s
  pub states : p.states.items ≡ spec.machine_states s
  pub results : p.results.now ≡ spec.results s
