use Rattle.std.proofs.Common.{◌≡◌, ap, sym, ◌∙◌}
use Rattle.sc_world.specs.Layout.{Location}
use Rattle.run_answers.specs.Seen.{over, is_chosen}
use Rattle.run_answers.proofs.Blanks.{was_chosen}
use Rattle.run_answers.proofs.entry.was_true.Goals as goal

pub returns-in-Some : goal.returns-in-Some
returns-in-Some c =
    c.is_chosen.ensures
    ∙ (ap (λ (l : Location). is_chosen (over c.args.over.now) l.type c.in-Some.bit l.target) c.location_at-location.ensures
    ∙ sym (was_chosen (over c.args.over.now) c.args.at c.in-Some.bit
    (sym (ap (λ (l : Location). l.bit) c.location_at-location.ensures) ∙ c.in-Some.is)))
