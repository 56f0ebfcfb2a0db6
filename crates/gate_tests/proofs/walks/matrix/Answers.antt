use Rattle.std.proofs.Common.{◌<◌, length, length-append, ap, arith, ◌∷◌, []}
use Rattle.reach_net.proofs.RowLemmas.{no_rows, pushed_row, gate_below}
use Rattle.gate_tests.proofs.walks.matrix.Goals as goal

pub loop-i-init : goal.loop-i-init
loop-i-init c = record {
  count = ap length c.new-rows.ensures.items;
  wide = (no_rows _ _ c.new-rows.ensures.items).0;
  below = omega (
    arith,
    (no_rows
        (length c.args.targets.now) c.new-rows.result.items c.new-rows.ensures.items).1,
  );
}

pub row-requires : goal.row-requires
row-requires c =
    let low : c.loop-i.i < length c.args.gates.now = omega arith in
    omega (arith, gate_below c.args.gates.now c.loop-i.i record { at = 0 } low, c.requires.below)

pub loop-i-preserved : goal.loop-i-preserved
loop-i-preserved c =
    let more = pushed_row (length c.args.targets.now) (length c.args.net.now) c.loop-i.rows.items c.push.new.self.items c.in_ok-next.next c.in_ok-push.ensures.items c.in_ok-next.ensures.wide c.in_ok-next.ensures.below c.loop-i.invariant.wide c.loop-i.invariant.below in
    record {
      count = omega (arith, ap length c.in_ok-push.ensures.items, length-append c.loop-i.rows.items (c.in_ok-next.next ∷ []), c.loop-i.invariant.count);
      wide = more.0;
      below = more.1;
    }
