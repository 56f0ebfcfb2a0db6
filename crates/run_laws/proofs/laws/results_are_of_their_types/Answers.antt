-- Each `return` gives a value of the type of the result.
use Rattle.std.proofs.Common.{[]}
use Rattle.sc_world.specs.World.{entry_world, ◌>>=◌}
use Rattle.sc_world.specs.Exec as exec
use Rattle.run_laws.specs.Proper.{IsProper}
use Rattle.run_laws.specs.Fits.{IsValueOf}
use Rattle.run_laws.proofs.Steps.{value_given}
use Rattle.run_laws.proofs.Stores.{no_temps}
use Rattle.run_laws.proofs.Entry.{entry_proper}
use Rattle.run_laws.proofs.Returned.{runs_typed}
use Rattle.run_laws.proofs.laws.results_are_of_their_types.Goals as goal

pub returns : goal.returns
returns c s p choice whole closed fits =
    value_given (IsProper s p) (IsValueOf s s.result) (IsValueOf s s.result) (λ d hd. hd)
    (exec.exec s.body (exec.env_of s p choice) >>= exec.finished s)
    (runs_typed s p choice [] whole closed (no_temps p) fits.result fits) (entry_world s p choice)
    (entry_proper s choice p whole closed)
