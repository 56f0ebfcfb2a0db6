use Rattle.typing_laws.proofs.Filled.{spread_if_kept}
use Rattle.typing_laws.proofs.declarations.braces_keep_globals.Goals as goal

pub returns : goal.returns
returns c = spread_if_kept
