use Rattle.std.proofs.Common.{◌≡◌}
use Rattle.gate_questions.specs.Ready.{input_lits}
use Rattle.gate_questions.proofs.first_choice.input_lits.Given as goal

-- the literals of the inputs before this one
abbrev pub invariant-loop-k : goal.invariant-loop-k
invariant-loop-k l = l.bits.items ≡ input_lits l.loader l.never l.k
