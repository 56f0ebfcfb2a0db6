use Rattle.std.proofs.Common.{refl, length}
use Rattle.report_text.specs.Shown.{choice_text}
use Rattle.choice_texts.proofs.Choices.{alike, is_found}
use Rattle.choice_texts.proofs.laws.no_two_are_spelled_alike.Goals as goal

pub returns-clause-same : goal.returns-clause-same
returns-clause-same c = alike

pub returns-clause-printed : goal.returns-clause-printed
returns-clause-printed c choice =
    is_found c.the_first_choice.ensures.least c.the_first_choice.ensures.some (length choice) (choice_text choice) choice refl refl
