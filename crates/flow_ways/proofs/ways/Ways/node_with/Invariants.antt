use Rattle.std.proofs.Common.{◌≡◌, drop}
use Rattle.flow_ways.specs.Sibling.{node_with}
use Rattle.flow_ways.proofs.ways.Ways.node_with.Given as goal

-- the first ways have other gates
abbrev pub invariant-loop-k : goal.invariant-loop-k
invariant-loop-k l = node_with l.gate.at (drop l.k l.self.waits.items) ≡ node_with l.gate.at l.self.waits.items
