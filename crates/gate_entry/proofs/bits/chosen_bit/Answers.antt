use Rattle.gate_entry.proofs.Choosing.{bit_beyond, beyond_layout}
use Rattle.gate_entry.proofs.bits.chosen_bit.Goals as goal

pub returns-else-k-choice_len : goal.returns-else-k-choice_len
returns-else-k-choice_len c =
    bit_beyond _ _ c.args.k _ (beyond_layout c.args.here.now c.args.k c.choice_len.result c.choice_len.ensures c.if-k-choice_len.false) c.constant.ensures
