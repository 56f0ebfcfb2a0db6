use Rattle.std.proofs.Common.{◌/◌, sym, arith}
use Rattle.std.proofs.Math.Nat.{div-one}
use Rattle.std.proofs.lemmas.Grind.{common_steps}
use Rattle.bit_words.proofs.NumberLemmas.{bound_laws}
use Rattle.bit_words.proofs.MakeLemmas.{number_none, number_step, number_left}
use Rattle.bit_words.proofs.making.number_word.Goals as goal

pub loop-place-init : goal.loop-place-init
loop-place-init c = record {
  wide = grind (arith, common_steps, bound_laws);
  below = grind (arith, common_steps, bound_laws);
  value = record { holds = λ choice v r. number_none v _ c.args.n c.new-bits.ensures.items };
  left = sym (div-one c.args.n);
}

pub loop-place-preserved : goal.loop-place-preserved
loop-place-preserved c = record {
  wide = grind (arith, common_steps, bound_laws);
  below = grind (arith, common_steps, bound_laws);
  value = record {
    holds = λ choice v r.
        number_step v c.loop-place.bits.items _ c.constant-bit.result c.loop-place.rest c.args.n c.loop-place._place c.in_ok-push.ensures.items
        c.loop-place.invariant.wide (c.loop-place.invariant.value.holds choice v r) c.loop-place.invariant.left (c.constant-bit.ensures.value choice v r);
  };
  left = number_left c.loop-place.rest c.args.n c.loop-place._place c.loop-place.invariant.left;
}
