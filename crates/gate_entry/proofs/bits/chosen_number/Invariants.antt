use Rattle.run_world.specs.Seen.{env}
use Rattle.gate_entry.proofs.Choosing.{DigitsSoFar}
use Rattle.gate_entry.proofs.bits.chosen_number.Given as goal

-- the first bits are there
abbrev pub invariant-loop-k : goal.invariant-loop-k
invariant-loop-k l = DigitsSoFar (env l.here).layout l.net l.at l.width l.k l.bits.items
