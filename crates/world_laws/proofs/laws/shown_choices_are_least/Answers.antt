-- By the law on first choices.
use Rattle.std.proofs.lemmas.List.Elements.{All-from_recursion}
use Rattle.sc_world.specs.Verdict.{reports, answers}
use Rattle.world_laws.specs.Shown.{IsRightReport}
use Rattle.world_laws.proofs.Reports.{all_right}
use Rattle.world_laws.proofs.laws.shown_choices_are_least.Goals as goal

pub returns : goal.returns
returns c s x =
    All-from_recursion (IsRightReport s x) (reports s x (answers s x))
    (all_right c.the_first_choice.ensures.least c.the_first_choice.ensures.some s x)
