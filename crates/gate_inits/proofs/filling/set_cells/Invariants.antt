use Rattle.bit_net.specs.Runs.{Grown}
use Rattle.gate_inits.proofs.CellsSet.{SetSoFar}
use Rattle.gate_inits.proofs.filling.set_cells.Given as goal

-- the first cells are set
abbrev pub invariant-loop-number : goal.invariant-loop-number
invariant-loop-number l =
    record {
      grown : Grown l.fn.net l.net;
      so_far : SetSoFar l.net l.fn.ends l.fn.object.cells.items l.fn.cells l.number l.fn.stored.locations.items l.stored.locations.items;
    }
