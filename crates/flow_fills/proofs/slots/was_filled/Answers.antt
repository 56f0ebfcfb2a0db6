use Rattle.flow_fills.proofs.KeptCells.{filled_at}
use Rattle.flow_fills.proofs.slots.was_filled.Goals as goal

pub returns : goal.returns
returns c = filled_at c.args.slots.now c.args.slot c.index-slots-slot.result c.requires
