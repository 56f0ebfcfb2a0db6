use Rattle.typing_laws.proofs.Declared.{typedef_kept}
use Rattle.typing_laws.proofs.declarations.typedefs_keep_globals.Goals as goal

pub returns : goal.returns
returns c = typedef_kept
