use Rattle.std.proofs.Common.{refl, append_assoc, append-nil, arith}
use Rattle.verdict_json.proofs.Bits.{bits_end, bits_tokens}
use Rattle.verdict_json.proofs.rows.+put_bits.Goals as goal

pub returns-then-digits-eq0 : goal.returns-then-digits-eq0
returns-then-digits-eq0 t c = simp (append-nil, bits_end c.args.digits c.args.given c.if-digits-eq0.true) refl

pub returns : goal.returns
returns t c =
    simp (
      append_assoc,
      c.in_ok-boolean.ensures,
      c.in_ok-put_bits.ensures,
      bits_tokens c.args.digits c.args.given (omega (arith, c.if-digits-eq0.false)),
    ) refl
