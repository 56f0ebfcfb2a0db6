use Rattle.flow_ways.proofs.WayLemmas.{sorted_none, sorted_step}
use Rattle.flow_ways.specs.declared.ways.Way.{Way}
use Rattle.flow_ways.proofs.ways.Ways.leave.Goals as goal

pub loop-way-init : goal.loop-way-init
loop-way-init c = sorted_none _ _ _ c.new-here.ensures.items c.new-rest.ensures.items

pub loop-way-preserved : goal.loop-way-preserved
loop-way-preserved c =
    let way : Way = record { node = 0; gate = record { at = 0 }; split = 0 } in
    sorted_step _ c.deref-way-items.result.now c.loop-way.way-index way _ _ _ _ c.loop-way-test.true c.in_ok-sort_way.ensures.here c.in_ok-sort_way.ensures.rest c.loop-way.invariant
