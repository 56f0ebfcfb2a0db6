-- The turn, and after a conflict the way back.
use Rattle.sat_cdcl.proofs.SearchLemmas.{progress_after}
use Rattle.sat_cdcl.proofs.turn.proceed.Goals as goal

pub returns-in-Decided-clause-progress : goal.returns-in-Decided-clause-progress
returns-in-Decided-clause-progress c = rw c.in-Decided.is at c.in_ok-turn.ensures.turn

pub returns-in-Found-clause-progress : goal.returns-in-Found-clause-progress
returns-in-Found-clause-progress c = rw c.in-Found.is at c.in_ok-turn.ensures.turn

pub returns-in-Clash-clause-progress : goal.returns-in-Clash-clause-progress
returns-in-Clash-clause-progress c =
    let given = c.in_ok-turn.ensures.given in
    progress_after c.args.search.now.clauses.given c.args.assumed.now _ _ _ c.resolve.result (rw c.in-Clash.is at c.in_ok-turn.ensures.turn)
    (rw given at c.resolve.ensures.progress)
