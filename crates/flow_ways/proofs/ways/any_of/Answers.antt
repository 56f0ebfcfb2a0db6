use Rattle.std.proofs.Common.{get_or, ap, ◌∙◌, ◌||◌, arith, sym}
use Rattle.bit_net.proofs.Growth.{Grown-trans}
use Rattle.flow_ways.proofs.WayLemmas.{way_below, any_step}
use Rattle.flow_ways.proofs.ways.any_of.Goals as goal

pub or-requires-clause-b : goal.or-requires-clause-b
or-requires-clause-b c = omega (
  arith,
  way_below c.args.ways.now c.loop-way.way-index record { node = 0; gate = record { at = 0 }; split = 0 } c.loop-way-test.true,
  c.requires,
  c.loop-way.invariant.grown.longer,
)

pub loop-way-preserved : goal.loop-way-preserved
loop-way-preserved c =
    let grown = c.in_ok-all.ensures.grown in
    record {
      grown = Grown-trans _ _ _ c.loop-way.invariant.grown grown;
      so_far = record {
        below = c.in_ok-all.ensures.ok.below;
        value = λ choice v r. c.in_ok-all.ensures.ok.value choice v r
            ∙ (ap (λ b. b || v (get_or c.args.ways.now c.loop-way.way-index record { node = 0; gate = record { at = 0 }; split = 0 }).gate.at) (c.loop-way.invariant.so_far.value choice v (grown.runs choice v r))
            ∙ sym (any_step v c.args.ways.now c.loop-way.way-index record { node = 0; gate = record { at = 0 }; split = 0 } c.loop-way-test.true));
      };
    }
