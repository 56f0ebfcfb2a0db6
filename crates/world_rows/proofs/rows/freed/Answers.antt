use Rattle.std.proofs.Common.{refl}
use Rattle.sc_world.specs.Objects.{object}
use Rattle.world_rows.proofs.rows.freed.Goals as goal

pub returns-clause-layout : goal.returns-clause-layout
unfolding object
returns-clause-layout c = refl

pub returns-clause-run_freed : goal.returns-clause-run_freed
returns-clause-run_freed c = refl

pub returns-clause-run_null : goal.returns-clause-run_null
returns-clause-run_null c = refl
