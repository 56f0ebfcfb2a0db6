use Rattle.typing_laws.proofs.Declared.{lengthen_kept}
use Rattle.typing_laws.proofs.declarations.lengthening_keeps_globals.Goals as goal

pub returns : goal.returns
returns c = lengthen_kept
