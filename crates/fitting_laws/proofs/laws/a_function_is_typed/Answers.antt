-- The example has no calls.
use Rattle.fitting_laws.proofs.ExampleTyped.{example_typed}
use Rattle.fitting_laws.proofs.laws.a_function_is_typed.Goals as goal

pub returns-clause-typed : goal.returns-clause-typed
returns-clause-typed c = example_typed

pub returns-clause-brackets : goal.returns-clause-brackets
returns-clause-brackets c x y among other same = absurd among
