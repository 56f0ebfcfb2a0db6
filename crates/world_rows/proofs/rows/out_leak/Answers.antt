use Rattle.std.proofs.Common.{refl}
use Rattle.sc_world.specs.Objects.{object}
use Rattle.sc_world.specs.Choices.{first_from}
use Rattle.world_rows.proofs.rows.out_leak.Goals as goal

pub returns-clause-layout : goal.returns-clause-layout
unfolding object
returns-clause-layout c = refl

pub returns-clause-run_zeros : goal.returns-clause-run_zeros
returns-clause-run_zeros c = refl

pub returns-clause-run_ones : goal.returns-clause-run_ones
returns-clause-run_ones c = refl

pub returns-clause-found : goal.returns-clause-found
unfolding object first_from
returns-clause-found c = refl
