use Rattle.std.proofs.Common.{length, subst, sym}
use Rattle.sc_tree.specs.declared.op.BinaryOp.TheVariants as kind
use Rattle.gate_values.specs.Operators.{IsComputed}
use Rattle.gate_values.proofs.Computing.{rem_s_word}
use Rattle.gate_values.proofs.operators.remainder.Goals as goal

pub returns-in_ok-made-clause-ok : goal.returns-in_ok-made-clause-ok
returns-in_ok-made-clause-ok c =
    subst (λ s. IsComputed c.rem_s.new.net kind.Rem s (length c.args.a.now.bits.items) c.args.a.now.bits.items c.args.b.now.bits.items c.in_ok-made.made.bits.items)
    (sym c.if-signed.true) (rem_s_word _ c.args.a.now.bits.items c.args.b.now.bits.items c.in_ok-made.made.bits.items c.in_ok-made.ensures.ok)
