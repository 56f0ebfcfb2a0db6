-- The assumptions disagree, or the search decides.
use Rattle.std.proofs.Common.{false, true, subst}
use Rattle.sat_base.specs.Propagation.{IsAssumed}
use Rattle.sat_base.proofs.Assuming.{refuted_assumed, answered_search}
use Rattle.sat_base.proofs.plain.answered.Goals as goal

pub returns-then-not-assume : goal.returns-then-not-assume
returns-then-not-assume c = refuted_assumed _ _ _ c.assume.new.marks (subst (λ marks. IsAssumed c.args.assumed.now marks c.assume.new.marks false) c.requires.blank c.if-not-assume.ensures)

pub returns : goal.returns
returns c =
    answered_search _ (λ values. values.items) _ _ _ c.assume.new.marks c.in_ok-found.found
    (subst (λ marks. IsAssumed c.args.assumed.now marks c.assume.new.marks true) c.requires.blank c.if-not-assume.ensures)
    c.in_ok-found.ensures
