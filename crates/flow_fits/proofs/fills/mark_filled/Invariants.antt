use Rattle.std.proofs.Common.{◌≡◌, ◌<◌, ◌||◌, ℕ, length, map, drop}
use Rattle.sc_flow.specs.Seen.{node, structs_of}
use Rattle.flow_exits.specs.Marks.{marked}
use Rattle.flow_fits.specs.Voids.{is_filled}
use Rattle.flow_fits.proofs.fills.mark_filled.Given as goal

-- what is marked by now, or is filled from there on
abbrev pub invariant-loop-node : goal.invariant-loop-node
invariant-loop-node l =
    (m : ℕ) → m < length l.fn.flags → (is_filled (map (node (structs_of l.here)) (drop l.node-index l.nodes)) m || marked l.flags m)
    ≡ (is_filled (map (node (structs_of l.fn.here)) l.fn.nodes) m || marked l.fn.flags m)
