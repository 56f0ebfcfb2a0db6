use Rattle.std.proofs.Common.{refl}
use Rattle.expr_tests.proofs.Behind.{begin_first}
use Rattle.expr_tests.proofs.body.walked.Goals as goal

-- src/body.rt:164:5
pub all_made-requires : goal.all_made-requires
all_made-requires c = record { ready = begin_first c.requires.few c.requires.same refl c.constant-begins.ensures.below c.requires.entered }
