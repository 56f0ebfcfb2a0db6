-- Each clause in turn.
use Rattle.std.proofs.Common.{◌∙◌}
use Rattle.sat_base.proofs.Passing.{pass_satisfied, pass_open, pass_unit, pass_conflict}
use Rattle.sat_base.proofs.propagate.pass_over.Goals as goal
use Rattle.sat_base.proofs.propagate.pass_over.Goals.{in-Satisfied, in-Unit, in-Open}

pub returns-in-Falsified : goal.returns-in-Falsified
returns-in-Falsified c =
    pass_conflict _ _ _ _ _ c.loop-clause.clause-index _ _ c.loop-clause-test.true (c.lits.ensures ∙ c.clause-item.is) c.in-Falsified.ensures c.loop-clause.invariant

pub loop-clause-preserved : goal.loop-clause-preserved
loop-clause-preserved c =
    let same = c.lits.ensures ∙ c.clause-item.is in
    elim c.match-look_at.branch [
      | in-Satisfied w ↦
          rw (w.marks-is, w.unset-is, w.changed-is)
          (pass_satisfied _ _ _ _ _ c.loop-clause.clause-index _ _ c.loop-clause-test.true same w.in-Satisfied.ensures c.loop-clause.invariant)
      | in-Unit w ↦
          rw (w.marks-is, w.unset-is, w.changed-is)
          (pass_unit _ _ _ _ _ c.loop-clause.clause-index _ _ w.in-Unit.lit c.loop-clause-test.true same w.in-Unit.ensures c.loop-clause.invariant)
      | in-Open w ↦
          rw (w.marks-is, w.unset-is, w.or-unset.ensures, w.changed-is)
          (pass_open _ _ _ _ _ c.loop-clause.clause-index _ _ w.in-Open.lit.var c.loop-clause-test.true same w.in-Open.ensures c.loop-clause.invariant)
    ]
