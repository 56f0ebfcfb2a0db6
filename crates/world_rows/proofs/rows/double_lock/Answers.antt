use Rattle.std.proofs.Common.{refl}
use Rattle.sc_world.specs.Objects.{object}
use Rattle.sc_world.specs.Choices.{first_from}
use Rattle.world_rows.proofs.rows.double_lock.Goals as goal

pub returns-clause-layout : goal.returns-clause-layout
unfolding object
returns-clause-layout c = refl

pub returns-clause-run_error : goal.returns-clause-run_error
returns-clause-run_error c = refl

pub returns-clause-run_end : goal.returns-clause-run_end
returns-clause-run_end c = refl

pub returns-clause-found : goal.returns-clause-found
unfolding object first_from
returns-clause-found c = refl
