-- Step by step of what lays out.
use Rattle.run_laws.proofs.LaidOut.{layouts_closed}
use Rattle.run_laws.proofs.laws.layouts_are_closed.Goals as goal

pub returns : goal.returns
returns c = layouts_closed
