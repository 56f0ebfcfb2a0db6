use Rattle.std.proofs.Common.{◌≡◌, take}
use Rattle.bit_net.specs.Value.{bit_at, values}
use Rattle.bit_net.proofs.nodes.Net.values_into.Given as goal

-- the values of the gates before g are written
abbrev pub invariant-loop-g : goal.invariant-loop-g
invariant-loop-g l = take l.g l.room ≡ values (bit_at l.choice) (take l.g l.nodes)
