-- A filter of candidates that stand in the order of printing.
use Rattle.world_laws.proofs.Items.{all_in_order}
use Rattle.world_laws.proofs.laws.rows_are_in_order.Goals as goal

pub returns : goal.returns
returns c = all_in_order
