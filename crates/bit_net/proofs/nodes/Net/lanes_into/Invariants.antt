use Rattle.std.proofs.Common.{◌≡◌, vec_len}
use Rattle.bit_net.specs.Lanes.{AreLanes}
use Rattle.bit_net.proofs.nodes.Net.lanes_into.Given as goal

-- the words so far are those of the gates before g
abbrev pub invariant-loop-g : goal.invariant-loop-g
invariant-loop-g l = record { count : vec_len l.words ≡ l.g; right : AreLanes l.self l.inputs l.words.items }
