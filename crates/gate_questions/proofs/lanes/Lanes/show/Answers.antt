-- The choice in which all hold.
use Rattle.std.proofs.Common.{sym, ◌∙◌, arith}
use Rattle.gate_questions.proofs.lanes.Lanes.show.Goals as goal

pub returns : goal.returns
returns c holds =
    let test = c.if-lane-ge64.false in
    (c.common_lane-lane.result, omega (arith, test), rw c.as_slice-words.ensures.value at (sym c.hold_in.ensures ∙ holds))
