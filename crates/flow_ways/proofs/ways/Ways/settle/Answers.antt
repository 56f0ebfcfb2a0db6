use Rattle.std.proofs.Common.{◌∙◌, arith, take, get_or, ◌+◌}
use Rattle.flow_ways.specs.declared.ways.Way.{Way}
use Rattle.flow_ways.proofs.WayLemmas.{wait_step, any_step, ways_top_take}
use Rattle.flow_ways.proofs.ways.Ways.settle.Goals as goal

pub loop-way-preserved : goal.loop-way-preserved
loop-way-preserved c =
    let way : Way = record { node = 0; gate = record { at = 0 }; split = 0 } in
    record {
      splits = c.in_ok-wait.ensures.splits ∙ c.loop-way.invariant.splits;
      held = λ v q. wait_step v c.args.self.now.waits.items c.loop-way.self.waits.items c.wait.new.self.waits.items c.args.node (take c.loop-way.way-index c.args.ways.now) (take (c.loop-way.way-index + 1) c.args.ways.now) (get_or c.args.ways.now c.loop-way.way-index way) q
          (c.in_ok-wait.ensures.ok v q) (c.loop-way.invariant.held v q) (any_step v c.args.ways.now c.loop-way.way-index way c.loop-way-test.true);
      within = omega (arith, c.in_ok-wait.ensures.waits, c.loop-way.invariant.within, ways_top_take c.args.ways.now c.loop-way.way-index way c.loop-way-test.true);
    }
