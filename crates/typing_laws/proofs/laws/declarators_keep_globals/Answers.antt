use Rattle.typing_laws.proofs.Induction.{declarators_kept}
use Rattle.typing_laws.proofs.laws.declarators_keep_globals.Goals as goal

pub returns : goal.returns
returns c = declarators_kept
