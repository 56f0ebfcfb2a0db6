use Rattle.gate_values.proofs.Ones.{ones_word}
use Rattle.gate_values.proofs.words.ones.Goals as goal

pub returns : goal.returns
returns c =
    ones_word _ record { bits = c.in_ok-bits.bits } c.constant.result c.args.width (c.in_ok-bits.ensures.items_if_clones_equal (λ y h. h)) c.constant.ensures
