use Rattle.std.proofs.Common.{◌≡◌, true, take, get_or}
use Rattle.std.specs.List.{list_all}
use Rattle.bit_net.specs.Lanes.{bit}
use Rattle.gate_questions.proofs.lanes.hold_in.Given as goal

-- the gates before this one hold
abbrev pub invariant-loop-gate : goal.invariant-loop-gate
invariant-loop-gate l = list_all (λ g. bit (get_or l.words g.at 0) l.lane) (take l.gate-index l.gates) ≡ true
