-- By the hint, by the order, or by the last look.
use Rattle.std.proofs.Common.{subst, ◌∙◌}
use Rattle.sat_trail.specs.Decided.{IsChoice, IsDecision}
use Rattle.sat_trail.proofs.decisions.decide.Goals as goal

pub returns-then-decide_active : goal.returns-then-decide_active
returns-then-decide_active c =
    subst (λ t. IsDecision t c.decide_active.new.trail) c.if-decide_preferred.ensures c.if-decide_active.ensures

pub returns : goal.returns
returns c =
    subst (λ t. IsChoice t c.collect.new.trail c.in_ok-choice.choice) (c.if-decide_active.ensures ∙ c.if-decide_preferred.ensures)
    c.in_ok-choice.ensures
