use Rattle.typing_laws.proofs.Declared.{object_if_kept}
use Rattle.typing_laws.proofs.declarations.objects_keep_globals.Goals as goal

pub returns : goal.returns
returns c = object_if_kept
