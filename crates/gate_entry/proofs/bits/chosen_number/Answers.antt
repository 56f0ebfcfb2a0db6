use Rattle.std.proofs.Common.{arith}
use Rattle.gate_entry.proofs.Choosing.{digits_none, digits_step, digits_whole}
use Rattle.gate_entry.proofs.bits.chosen_number.Goals as goal

pub loop-k-init : goal.loop-k-init
loop-k-init c = digits_none _ _ _ _ _ c.new-bits.ensures.items

pub loop-k-preserved : goal.loop-k-preserved
loop-k-preserved c =
    digits_step _ _ c.args.at c.args.width c.loop-k.k _ _ _ (omega arith) c.in_ok-push.ensures.items c.chosen_bit-bit.ensures c.loop-k.invariant

pub returns : goal.returns
returns c = digits_whole _ _ c.args.at c.args.width c.loop-k.k _ (omega arith) c.loop-k.invariant
