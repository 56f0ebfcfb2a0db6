use Rattle.std.proofs.Common.{refl}
use Rattle.sc_world.specs.Objects.{object}
use Rattle.world_rows.proofs.rows.division.Goals as goal

pub returns-clause-layout : goal.returns-clause-layout
unfolding object
returns-clause-layout c = refl

pub returns-clause-run_overflows : goal.returns-clause-run_overflows
returns-clause-run_overflows c = refl

pub returns-clause-run_by_zero : goal.returns-clause-run_by_zero
returns-clause-run_by_zero c = refl

pub returns-clause-run_exits : goal.returns-clause-run_exits
returns-clause-run_exits c = refl
