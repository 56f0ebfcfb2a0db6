use Rattle.flow_turns.proofs.Lists.{vals_set}
use Rattle.flow_turns.proofs.temps.set_val.Goals as goal

pub returns-clause-top : goal.returns-clause-top
returns-clause-top c = λ n top low. vals_set c.args.vals.now c.args.k c.args.x n top low
