use Rattle.bit_net.specs.Facts.{Learns}
use Rattle.bit_net.proofs.facts.Facts.learn.Given as goal

-- what is known so far follows from the new fact
abbrev pub invariant-loop-at : goal.invariant-loop-at
invariant-loop-at l = Learns l.net l.fn.gate.at l.holds l.fn.self l.self
