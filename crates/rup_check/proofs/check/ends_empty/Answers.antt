-- The last step, or none.
use Rattle.std.proofs.Common.{sym, ◌∙◌}
use Rattle.rup_check.proofs.SteppingLemmas.{ends_some}
use Rattle.rup_check.proofs.check.ends_empty.Goals as goal

pub returns-in-Some : goal.returns-in-Some
returns-in-Some c = c.adds_empty.ensures ∙ sym (ends_some c.args.steps.now c.in-Some.step.now (sym c.in-Some.ensures.value))
