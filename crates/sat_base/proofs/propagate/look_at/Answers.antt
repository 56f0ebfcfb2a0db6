-- Each literal of the clause in turn.
use Rattle.sat_base.proofs.Scanning.{scan_true, scan_false, scan_open}
use Rattle.sat_base.proofs.propagate.look_at.Goals as goal
use Rattle.sat_base.proofs.propagate.look_at.Goals.{in-Some-false, in-None}

pub returns-in-Some-true : goal.returns-in-Some-true
returns-in-Some-true c =
    scan_true _ _ c.loop-lit.lit-index _ c.in-Some-true.field-0 c.loop-lit-test.true c.in-Some-true.ensures c.in-Some-true.field-0-test

pub loop-lit-preserved : goal.loop-lit-preserved
loop-lit-preserved c =
    elim c.match-lit_mark.branch [
      | in-Some-false w ↦
          rw (w.unset-is, w.several-is)
          (scan_false _ _ _ _ c.loop-lit.lit-index _ w.in-Some-false.field-0 c.loop-lit-test.true w.in-Some-false.ensures w.in-Some-false.field-0-test c.loop-lit.invariant)
      | in-None w ↦
          rw (w.unset-is, w.several-is, w.is_some-several.ensures)
          (scan_open _ _ _ _ c.loop-lit.lit-index _ c.loop-lit-test.true c.requires w.in-None.ensures c.loop-lit.invariant)
    ]
