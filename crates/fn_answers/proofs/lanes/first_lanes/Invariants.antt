-- One word for each bit so far.
use Rattle.std.proofs.Common.{◌≡◌, length}
use Rattle.fn_answers.proofs.lanes.first_lanes.Given as goal

abbrev pub invariant-loop-at : goal.invariant-loop-at
invariant-loop-at l = length l.lanes.items ≡ l.at
