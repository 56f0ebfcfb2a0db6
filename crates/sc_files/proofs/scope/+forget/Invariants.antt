use Rattle.std.proofs.Common.{length}
use Rattle.sc_files.proofs.scope.+forget.Given as goal

abbrev pub decreases-forget : goal.decreases-forget
decreases-forget g l = length l.scopes.now.blocks
