use Rattle.std.proofs.Common.{sym, ap, subst, ◌∙◌}
use Rattle.sc_world.specs.Layout.{Location}
use Rattle.fn_facts.specs.Seen.{is_chosen}
use Rattle.fn_facts.specs.Showing.{Shows}
use Rattle.fn_facts.proofs.Given.{blank_shown, true_shown}
use Rattle.fn_facts.proofs.entry.was_true.Goals as goal

pub returns-in-None-clause-ok : goal.returns-in-None-clause-ok
returns-in-None-clause-ok c =
    blank_shown _ _ c.args.at _ (sym (ap (λ l. l.bit) c.location_at-location.ensures) ∙ c.in-None.is) c.constant.ensures

pub returns-in_ok-chosen-in-Some-clause-ok : goal.returns-in_ok-chosen-in-Some-clause-ok
returns-in_ok-chosen-in-Some-clause-ok c =
    true_shown _ _ c.args.at c.in-Some.bit _ (sym (ap (λ l. l.bit) c.location_at-location.ensures) ∙ c.in-Some.is)
    (subst (λ (l : Location). Shows c.args.around.now c.is_chosen_at.new.net (λ o. is_chosen o l.type c.in-Some.bit l.target) c.in_ok-chosen-in-Some.chosen.at)
    c.location_at-location.ensures c.in_ok-chosen-in-Some.ensures.ok)
