-- A run of the code, as it is shown.
use Rattle.sum_rows.specs.declared.report.Shown.{Shown}
use Rattle.run_json.specs.declared.ran.Ran.{Ran}

abbrev pub shown_of : Ran → Shown
shown_of r = record { choice = r.choice.now; trace = r.events.now; text = r.location.now }
