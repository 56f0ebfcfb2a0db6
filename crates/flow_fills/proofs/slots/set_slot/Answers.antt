use Rattle.std.proofs.Common.{true}
use Rattle.flow_fills.proofs.KeptCells.{filled_set, cells_set, top_set}
use Rattle.flow_fills.proofs.slots.set_slot.Goals as goal

pub returns-clause-filled : goal.returns-clause-filled
returns-clause-filled c = λ j. filled_set c.args.slots.now c.args.slot j (record { cells = c.args.cells; kept = true }) c.requires

pub returns-clause-cells : goal.returns-clause-cells
returns-clause-cells c = λ j. cells_set c.args.slots.now c.args.slot j (record { cells = c.args.cells; kept = true }) c.requires

pub returns-clause-top : goal.returns-clause-top
returns-clause-top c = λ n top low. top_set c.args.slots.now c.args.slot (record { cells = c.args.cells; kept = true }) n top low
