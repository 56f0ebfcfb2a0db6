use Rattle.std.proofs.Common.{take}
use Rattle.bit_net.specs.Runs.{Grown}
use Rattle.layout_base.specs.Seen as laid
use Rattle.gate_paths.specs.Targets.{Steps}
use Rattle.gate_paths.proofs.steps.follow.Given as goal

-- where the steps so far lead
abbrev pub invariant-loop-step : goal.invariant-loop-step
invariant-loop-step l =
    record {
      grown : Grown l.fn.net l.net;
      so_far : Steps l.net (laid.layout_of l.layout.places.now) l.store.locations.items (take l.step-index l.steps) l.fn.begin.pairs.items l.come.pairs.items;
    }
