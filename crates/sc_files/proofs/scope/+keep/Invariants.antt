use Rattle.std.proofs.Common.{length}
use Rattle.sc_files.proofs.scope.+keep.Given as goal

abbrev pub decreases-keep : goal.decreases-keep
decreases-keep g l = length l.scopes.now.blocks
