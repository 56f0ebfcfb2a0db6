use Rattle.sc_input.proofs.Growing.{begins_without}
use Rattle.sc_input.proofs.reading.begun.Goals as goal

pub returns-in-None-clause-begins : goal.returns-in-None-clause-begins
returns-in-None-clause-begins g c = rw c.in-None.is (begins_without _ _ c.without_machine.ensures)
