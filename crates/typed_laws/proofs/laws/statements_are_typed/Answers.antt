use Rattle.typed_laws.proofs.Typing.{statements_typed}
use Rattle.typed_laws.proofs.laws.statements_are_typed.Goals as goal

pub returns : goal.returns
returns c = statements_typed
