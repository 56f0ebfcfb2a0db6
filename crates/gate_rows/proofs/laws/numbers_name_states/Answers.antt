use Rattle.gate_rows.proofs.Rows.{numbered_is, out_is, param_is, pointer_is}
use Rattle.gate_rows.proofs.laws.numbers_name_states.Goals as goal

pub returns-clause-machine : goal.returns-clause-machine
returns-clause-machine c = numbered_is

pub returns-clause-param : goal.returns-clause-param
returns-clause-param c = param_is

pub returns-clause-pointer : goal.returns-clause-pointer
returns-clause-pointer c = pointer_is

pub returns-clause-out : goal.returns-clause-out
returns-clause-out c = out_is
