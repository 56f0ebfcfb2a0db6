-- The locations are right, and what the body names was found.
use Rattle.fitting_laws.proofs.Functions.{function_fits}
use Rattle.fitting_laws.proofs.laws.functions_fit.Goals as goal

pub returns : goal.returns
returns c s p laid tell typed = function_fits s p (c.locations_are_right.ensures s p laid) laid tell typed
