-- What contracts see of how a run ends.
use Rattle.std.specs.Prelude.{Result, Ok, Err}
use Rattle.run_store.specs.Concrete.{Cell}
use Rattle.sc_world.specs.World as spec
use Rattle.run_world.specs.Seen.{cell}
use Rattle.sc_interp.specs.declared.outcome.Outcome.{Outcome}
use Rattle.sc_interp.specs.declared.outcome.Outcome.TheVariants as outcome

abbrev pub ended : Outcome → Result Cell spec.Ended
ended (outcome.Exit v) = Ok (cell v)
ended (outcome.Error at) = Err (spec.Error at)
ended (outcome.Inner at) = Err (spec.Inner at)
ended (outcome.Aside r) = Err (spec.Aside r)
