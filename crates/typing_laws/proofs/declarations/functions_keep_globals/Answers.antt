use Rattle.typing_laws.proofs.Declared.{function_kept}
use Rattle.typing_laws.proofs.declarations.functions_keep_globals.Goals as goal

pub returns : goal.returns
returns c = function_kept
