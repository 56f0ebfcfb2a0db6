use Rattle.typing_laws.proofs.Declared.{local_kept}
use Rattle.typing_laws.proofs.declarations.locals_keep_globals.Goals as goal

pub returns : goal.returns
returns c = local_kept
