use Rattle.left_out.proofs.Nothing.{all_of_runs}
use Rattle.left_out.proofs.laws.nothing_left_out.Goals as goal

pub returns : goal.returns
returns c s x m rs nothing = all_of_runs s x m rs nothing
