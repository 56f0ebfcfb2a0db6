use Rattle.std.proofs.Common.{refl}
use Rattle.sc_world.specs.Objects.{object}
use Rattle.world_rows.proofs.rows.goto_leak.Goals as goal

pub returns-clause-layout : goal.returns-clause-layout
unfolding object
returns-clause-layout c = refl

pub returns-clause-run_ones : goal.returns-clause-run_ones
returns-clause-run_ones c = refl

pub returns-clause-run_zeros : goal.returns-clause-run_zeros
returns-clause-run_zeros c = refl
