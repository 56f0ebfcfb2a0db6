use Rattle.std.proofs.Common.{subst, arith}
use Rattle.gate_values.specs.Values.{IsTruth}
use Rattle.bit_net.proofs.Growth.{Grown-refl, Grown-trans}
use Rattle.gate_rows.proofs.Entering.{bits_none, bits_step, bits_all}
use Rattle.gate_rows.proofs.entries.entry_bits.Goals as goal

pub loop-i-init : goal.loop-i-init
loop-i-init c = record { grown = Grown-refl _; so_far = bits_none _ c.args.args.now _ c.new-bits.ensures.items }

pub loop-i-preserved : goal.loop-i-preserved
loop-i-preserved c =
    record {
      grown = Grown-trans _ _ _ c.loop-i.invariant.grown c.in_ok-bit.ensures.grown;
      so_far =
          bits_step _ _ c.args.args.now c.loop-i.i c.index-args-i.result _ _ c.in_ok-bit.bit
          (omega (arith, c.loop-i-test.true, c.entry_count-count.ensures.within))
          (omega (arith, c.loop-i-test.true, c.entry_count-count.ensures.few)) c.in_ok-bit.ensures.grown c.in_ok-push.ensures.items c.loop-i.invariant.so_far
          (subst (λ x. IsTruth c.truth.new.net x c.in_ok-bit.bit.at) c.index-args-i.is c.in_ok-bit.ensures.ok);
    }

pub returns-clause-ok : goal.returns-clause-ok
returns-clause-ok c =
    bits_all _ c.args.args.now c.loop-i.i _ (λ h. omega (arith, c.entry_count-count.ensures.all (omega (arith, h)))) (omega arith) c.loop-i.invariant.so_far
