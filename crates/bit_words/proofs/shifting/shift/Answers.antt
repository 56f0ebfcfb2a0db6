use Rattle.std.proofs.Common.{◌∙◌, ap, arith, length, rules}
use Rattle.std.proofs.lemmas.Nat.{one_shl}
use Rattle.bit_words.specs.Number.{top}
use Rattle.bit_net.proofs.Growth.{Grown-trans}
use Rattle.bit_words.proofs.MoveLemmas.{shift_none, shift_step}
use Rattle.bit_words.proofs.shifting.shift.Goals as goal

pub loop-j-init : goal.loop-j-init
loop-j-init c = record {
  grown = search rules;
  wide = ap length c.in_ok-from_slice.ensures.items;
  below = omega (arith, ap top c.in_ok-from_slice.ensures.items, c.requires.a);
  beyond = c.constant-no.ensures.below;
  value = record {
    holds = λ choice v r.
        shift_none v c.args.direction c.args.a.now c.in_ok-from_slice.field-0.items c.args.count.now c.constant-no.result.at c.in_ok-from_slice.ensures.items (c.constant-no.ensures.value choice v r);
  };
}

pub loop-j-preserved : goal.loop-j-preserved
loop-j-preserved c =
    let grown = c.in_ok-next.ensures.grown in
    record {
      grown = Grown-trans _ _ _ c.loop-j.invariant.grown grown;
      wide = c.in_ok-next.ensures.ok.wide ∙ c.loop-j.invariant.wide;
      below = c.in_ok-next.ensures.ok.below;
      beyond = c.in_ok-next.ensures.ok.beyond_below;
      value = record {
        holds = λ choice v r.
            shift_step v c.args.direction c.args.a.now c.loop-j.shifted.word.items c.in_ok-next.next.word.items c.args.count.now c.loop-j.shifted.beyond.at c.in_ok-next.next.beyond.at _ c.loop-j.j _
            c.loop-j.invariant.wide c.loop-j-test.true (one_shl c.loop-j.j 64 (omega arith)) (c.loop-j.invariant.value.holds choice v (grown.runs choice v r)) (c.in_ok-next.ensures.ok.value choice v r);
      };
    }
