use Rattle.sc_interp.proofs.Runs.{cells_kept}
use Rattle.sc_interp.proofs.machine.cells_stay.Goals as goal

pub returns : goal.returns
returns c =
    cells_kept _ _ (λ choice. c.worlds_stay_proper.ensures.runs _ _ choice c.requires.whole c.requires.closed)
