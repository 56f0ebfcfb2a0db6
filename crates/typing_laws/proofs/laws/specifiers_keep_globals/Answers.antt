use Rattle.typing_laws.proofs.Induction.{specifiers_kept}
use Rattle.typing_laws.proofs.laws.specifiers_keep_globals.Goals as goal

pub returns : goal.returns
returns c = specifiers_kept
