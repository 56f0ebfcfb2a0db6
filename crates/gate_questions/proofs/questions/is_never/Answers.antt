-- One of the gates never holds.
use Rattle.bit_net.specs.declared.nodes.Gate.{Gate}
use Rattle.gate_questions.proofs.Holding.{never_hold}
use Rattle.gate_questions.proofs.questions.is_never.Goals as goal

pub returns-then-is_false : goal.returns-then-is_false
returns-then-is_false c _ =
    let d : Gate = record { at = 0 } in
    never_hold c.args.net.now c.args.gates.now c.loop-gate.gate-index d c.sound.ensures c.runs_fit_tables.ensures.fits c.loop-gate-test.true
    (c.is_false.ensures c.if-is_false.true)
