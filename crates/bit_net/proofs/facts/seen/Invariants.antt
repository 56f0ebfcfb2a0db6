use Rattle.bit_net.specs.Facts.{IsSeen}
use Rattle.bit_net.proofs.facts.seen.Given as goal

-- the gate so far has the value of the first one
abbrev pub invariant-loop : goal.invariant-loop
invariant-loop l = IsSeen l.net l.facts l.fn.gate.at l.left.at
