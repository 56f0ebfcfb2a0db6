use Rattle.gate_fails.proofs.Ordering.{in_order}
use Rattle.gate_fails.proofs.laws.first_error_ends.Goals as goal

pub returns : goal.returns
returns c = in_order
