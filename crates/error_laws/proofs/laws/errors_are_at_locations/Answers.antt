-- No step of a run ends it by an error but at a location.
use Rattle.std.proofs.Common.{inl, inr}
use Rattle.error_laws.proofs.Statements.{runs}
use Rattle.error_laws.proofs.laws.errors_are_at_locations.Goals as goal

pub returns-clause-some : goal.returns-clause-some
returns-clause-some c s p bits h = runs s p bits (inl h)

pub returns-clause-none : goal.returns-clause-none
returns-clause-none c s p bits h = runs s p bits (inr h)
