-- By computing, and by the one location of the struct.
use Rattle.std.proofs.Common.{refl}
use Rattle.sc_world.specs.Objects.{object}
use Rattle.run_laws.proofs.Fitting.{example_fits}
use Rattle.run_laws.proofs.laws.a_function_fits.Goals as goal

pub returns-clause-laid : goal.returns-clause-laid
unfolding object
returns-clause-laid c = refl

pub returns-clause-fits : goal.returns-clause-fits
returns-clause-fits c = example_fits
