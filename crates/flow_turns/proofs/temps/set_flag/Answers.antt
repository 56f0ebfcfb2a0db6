use Rattle.std.proofs.Common.{true}
use Rattle.flow_turns.proofs.Lists.{flag_set}
use Rattle.flow_turns.proofs.temps.set_flag.Goals as goal

pub returns-clause-set : goal.returns-clause-set
returns-clause-set c = λ j. flag_set c.args.flags.now c.args.k j true c.requires
