use Rattle.std.proofs.Common.{ℕ, subst}
use Rattle.fn_facts.specs.Seen.{was_true}
use Rattle.fn_facts.specs.Showing.{Shows}
use Rattle.fn_facts.proofs.Given.{given_shown}
use Rattle.fn_facts.proofs.entry.is_given.Goals as goal

pub returns-clause-ok : goal.returns-clause-ok
returns-clause-ok c =
    given_shown _ _ c.args.n _
    (subst (λ (k : ℕ). Shows c.args.around.now c.was_true.new.net (λ o. was_true o k) c.in_ok-given.given.at) c.param_location.ensures
    c.in_ok-given.ensures.ok)
