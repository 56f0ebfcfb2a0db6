use Rattle.std.proofs.Common.{refl}
use Rattle.sc_world.specs.Objects.{object}
use Rattle.sc_world.specs.Choices.{first_from}
use Rattle.world_rows.proofs.rows.trylock_untold.Goals as goal

pub returns-clause-layout : goal.returns-clause-layout
unfolding object
returns-clause-layout c = refl

pub returns-clause-found : goal.returns-clause-found
unfolding object first_from
returns-clause-found c = refl
