use Rattle.bit_net.specs.Runs.{Grown}
use Rattle.run_world.specs.Seen as seen
use Rattle.gate_inits.proofs.CellsSet.{ClearSoFar}
use Rattle.gate_inits.proofs.filling.clear_cells.Given as goal

-- the first cells are 0 or null
abbrev pub invariant-loop-target : goal.invariant-loop-target
invariant-loop-target l =
    record {
      grown : Grown l.fn.net l.net;
      so_far : ClearSoFar (seen.env l.fn.here).source (seen.env l.fn.here).layout l.net l.fn.ends l.fn.targets l.target-index l.fn.stored.locations.items l.stored.locations.items;
    }
