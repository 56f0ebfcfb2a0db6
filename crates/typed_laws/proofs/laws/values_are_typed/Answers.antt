use Rattle.typed_laws.proofs.Typing.{values_typed}
use Rattle.typed_laws.proofs.laws.values_are_typed.Goals as goal

pub returns : goal.returns
returns c = values_typed
