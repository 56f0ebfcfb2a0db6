use Rattle.std.proofs.Common.{length, subst, sym}
use Rattle.bit_net.specs.Runs.{Gives}
use Rattle.bit_words.specs.Number.{number}
use Rattle.sc_typed.specs.Arith.{is_less}
use Rattle.gate_values.proofs.Computing.{less_s_gate}
use Rattle.gate_values.proofs.operators.less.Goals as goal

pub returns-in_ok-low-clause-ok : goal.returns-in_ok-low-clause-ok
returns-in_ok-low-clause-ok c =
    subst (λ s. Gives c.less_s.new.net c.in_ok-low.low.at (λ choice v. is_less (length c.args.a.now.bits.items) s (number v c.args.a.now.bits.items) (number v c.args.b.now.bits.items)))
    (sym c.if-signed.true) (less_s_gate _ c.args.a.now.bits.items c.args.b.now.bits.items _ c.in_ok-low.ensures.ok)
