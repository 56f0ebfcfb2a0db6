-- Each machine of a file is whole, and the machine of locks is that of a file.
use Rattle.fsm_spec.proofs.WholeProofs.{whole, lock_whole}
use Rattle.fsm_spec.proofs.laws.whole_machines.Goals as goal

pub returns : goal.returns
returns c = record { files = whole; lock = lock_whole }
