use Rattle.std.proofs.Common.{refl}
use Rattle.sc_world.specs.Objects.{object}
use Rattle.world_rows.proofs.rows.out_kept.Goals as goal

pub returns-clause-layout : goal.returns-clause-layout
unfolding object
returns-clause-layout c = refl

pub returns-clause-run_set : goal.returns-clause-run_set
returns-clause-run_set c = refl

pub returns-clause-run_kept : goal.returns-clause-run_kept
returns-clause-run_kept c = refl
