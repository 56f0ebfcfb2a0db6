use Rattle.std.proofs.Common.{take}
use Rattle.flow_ways.proofs.WayLemmas.{Sorted}
use Rattle.flow_ways.proofs.ways.Ways.leave.Given as goal

-- of the first ways those at the node stand apart from the others
abbrev pub invariant-loop-way : goal.invariant-loop-way
invariant-loop-way l = Sorted l.node (take l.way-index l.way-items) l.here.items l.rest.items
