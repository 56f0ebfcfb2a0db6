use Rattle.std.proofs.Common.{refl}
use Rattle.sc_world.specs.Objects.{object}
use Rattle.sc_world.specs.Choices.{first_from}
use Rattle.world_rows.proofs.rows.taken.Goals as goal

pub returns-clause-layout : goal.returns-clause-layout
unfolding object
returns-clause-layout c = refl

pub returns-clause-run_taken : goal.returns-clause-run_taken
returns-clause-run_taken c = refl

pub returns-clause-run_double : goal.returns-clause-run_double
returns-clause-run_double c = refl

pub returns-clause-run_null : goal.returns-clause-run_null
returns-clause-run_null c = refl

pub returns-clause-found : goal.returns-clause-found
unfolding object first_from
returns-clause-found c = refl
