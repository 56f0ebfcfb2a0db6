use Rattle.typing_laws.proofs.Induction.{expressions_kept}
use Rattle.typing_laws.proofs.laws.expressions_keep_globals.Goals as goal

pub returns : goal.returns
returns c = expressions_kept
