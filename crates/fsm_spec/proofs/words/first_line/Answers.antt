-- Without a line feed the bytes are one line.
use Rattle.std.proofs.Common.{◌≡◌}
use Rattle.fsm_spec.proofs.WordProofs.{lines_last}
use Rattle.fsm_spec.proofs.words.first_line.Goals as goal

pub returns-in-None : goal.returns-in-None
returns-in-None c =
    let w : c.args.bytes.now ≡ c.cut.result.0.now = rw c.in-None.is at c.cut.ensures.whole in
    lines_last _ _ w c.requires c.cut.ensures.front
