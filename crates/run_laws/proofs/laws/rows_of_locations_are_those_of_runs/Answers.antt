-- The candidates among them are; and each row that a run has is a candidate, since its worlds are proper.
use Rattle.std.proofs.Common.{subst}
use Rattle.std.specs.Prelude.{IfOk}
use Rattle.run_laws.specs.Proper.{IsClosed}
use Rattle.run_laws.proofs.Rows.{covered}
use Rattle.run_laws.proofs.laws.rows_of_locations_are_those_of_runs.Goals as goal

pub returns-clause-closed : goal.returns-clause-closed
returns-clause-closed c s x at whole closed outer r =
    let both = c.rows_are_those_of_runs.ensures.locks s x at r in (
      λ has. (both.0 has).1,
      λ run.
          both.1 (
            covered s x.layout run.0 whole (c.worlds_stay_proper.ensures.runs s x.layout run.0 whole closed) x at r outer run.2,
            run,
          ),
    )

pub returns-clause-laid : goal.returns-clause-laid
returns-clause-laid c s x at whole laid outer =
    returns-clause-closed c s x at whole (subst (λ o. IfOk o IsClosed) laid (c.layouts_are_closed.ensures s)) outer
