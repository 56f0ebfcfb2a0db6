use Rattle.left_out.proofs.Whole.{AreOfRuns, leaves_nothing}
use Rattle.left_out.proofs.laws.verdicts_leave_nothing_out.Goals as goal

pub returns : goal.returns
returns c s x whole closed own =
    let rows = c.rows_are_those_of_runs.ensures in
    let errors = c.each_error_has_its_report.ensures in
    let laws : AreOfRuns s x = record {
      exits = rows.exits s x;
      locks = λ at outer. c.rows_of_locations_are_those_of_runs.ensures.closed s x at whole closed outer;
      params = rows.params s x;
      outs = rows.outs s x;
      touches = rows.touched s x;
      changes = rows.changed s x;
      sets = rows.set s x;
      writes = rows.written s x;
      inner = errors.inner s x;
      leaks = errors.leak s x;
    } in
    leaves_nothing s x laws own
