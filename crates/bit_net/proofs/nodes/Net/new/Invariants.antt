use Rattle.std.proofs.Common.{◌≡◌}
use Rattle.bit_net.specs.Circuit.{first_nodes}
use Rattle.bit_net.proofs.nodes.Net.new.Given as goal

-- the nodes so far are those of a net with the inputs so far
abbrev pub invariant-loop-k : goal.invariant-loop-k
invariant-loop-k l = l.nodes.items ≡ first_nodes l.k
