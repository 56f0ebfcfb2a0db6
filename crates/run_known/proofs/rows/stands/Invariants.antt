use Rattle.std.proofs.Common.{◌≡◌, drop}
use Rattle.sc_world.specs.Known as spec
use Rattle.run_known.specs.Seen.{sought}
use Rattle.run_known.proofs.rows.stands.Given as goal

abbrev pub invariant-loop-row : goal.invariant-loop-row
invariant-loop-row l =
    spec.stands (spec.row l.sought.given (sought l.sought.before) l.sought.result (sought l.sought.after)) (drop l.row-index l.rows)
    ≡ spec.stands (spec.row l.fn.sought.given (sought l.fn.sought.before) l.fn.sought.result (sought l.fn.sought.after)) l.fn.rows
