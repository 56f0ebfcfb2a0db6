use Rattle.typed_laws.proofs.Typing.{places_typed}
use Rattle.typed_laws.proofs.laws.places_are_typed.Goals as goal

pub returns : goal.returns
returns c = places_typed
