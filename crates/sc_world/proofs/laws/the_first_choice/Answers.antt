-- By recursion on the bits that are left.
use Rattle.sc_world.proofs.Choices.{least_of, none_of, some_of}
use Rattle.sc_world.proofs.laws.the_first_choice.Goals as goal

pub returns-clause-least : goal.returns-clause-least
returns-clause-least c = least_of

pub returns-clause-none : goal.returns-clause-none
returns-clause-none c = none_of

pub returns-clause-some : goal.returns-clause-some
returns-clause-some c = some_of
