use Rattle.std.proofs.Common.{sym, ◌∙◌, arith}
use Rattle.run_entry.proofs.Digits.{digit_more}
use Rattle.run_entry.proofs.choice.number_at.Goals as goal

pub loop-k-preserved : goal.loop-k-preserved
loop-k-preserved c =
    let more = digit_more c.args.width c.loop-k.k c.args.at c.loop-k.number c.args.choice.now (omega arith) in
    record {
      value = rw (c.with_digit-number.ensures.value, c.bit_at.ensures) (sym more ∙ c.loop-k.invariant.value);
      bound = c.with_digit-number.ensures.bound;
    }
