-- Without a space the line is one word.
use Rattle.std.proofs.Common.{◌≡◌}
use Rattle.fsm_spec.proofs.WordProofs.{words_last}
use Rattle.fsm_spec.proofs.words.first_word.Goals as goal

pub returns-in-None : goal.returns-in-None
returns-in-None c =
    let w : c.args.line.now ≡ c.cut.result.0.now = rw c.in-None.is at c.cut.ensures.whole in
    words_last _ _ w c.cut.ensures.front
