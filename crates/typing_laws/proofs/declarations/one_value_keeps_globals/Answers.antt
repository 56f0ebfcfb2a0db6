use Rattle.typing_laws.proofs.Filled.{one_kept}
use Rattle.typing_laws.proofs.declarations.one_value_keeps_globals.Goals as goal

pub returns : goal.returns
returns c = one_kept
