use Rattle.typing_laws.proofs.Induction.{heads_kept}
use Rattle.typing_laws.proofs.laws.heads_keep_globals.Goals as goal

pub returns : goal.returns
returns c = heads_kept
