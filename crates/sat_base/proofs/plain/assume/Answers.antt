-- Each assumed literal in turn.
use Rattle.sat_base.proofs.Assuming.{assume_true, assume_open, assume_false}
use Rattle.sat_base.proofs.plain.assume.Goals as goal
use Rattle.sat_base.proofs.plain.assume.Goals.{in-Some-true, in-None}

pub returns-in-Some-false : goal.returns-in-Some-false
returns-in-Some-false c =
    assume_false _ _ _ c.loop-lit.lit-index _ c.in-Some-false.field-0 c.loop-lit-test.true c.in-Some-false.ensures c.in-Some-false.field-0-test c.loop-lit.invariant

pub loop-lit-preserved : goal.loop-lit-preserved
loop-lit-preserved c =
    elim c.match-lit_mark.branch [
      | in-Some-true w ↦
          rw w.marks-is
          (assume_true _ _ _ c.loop-lit.lit-index _ w.in-Some-true.field-0 c.loop-lit-test.true w.in-Some-true.ensures w.in-Some-true.field-0-test c.loop-lit.invariant)
      | in-None w ↦
          rw w.marks-is
          (assume_open _ _ _ c.loop-lit.lit-index _ c.loop-lit-test.true c.requires w.in-None.ensures c.loop-lit.invariant)
    ]
