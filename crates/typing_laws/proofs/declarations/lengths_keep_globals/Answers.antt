use Rattle.typing_laws.proofs.Lengths.{completed_kept}
use Rattle.typing_laws.proofs.declarations.lengths_keep_globals.Goals as goal

pub returns : goal.returns
returns c = completed_kept
