use Rattle.bit_net.specs.Runs.{Grown}
use Rattle.flow_fills.specs.Laid.{layout_of, source_of}
use Rattle.flow_fills.proofs.Fills.{PartsSoFar}
use Rattle.flow_fills.proofs.filling.fill_parts.Given as goal

-- the first parts are set
abbrev pub invariant-loop-number : goal.invariant-loop-number
invariant-loop-number l =
    record {
      grown : Grown l.fn.net l.net;
      so_far : PartsSoFar (source_of l.fn.laid) (layout_of l.fn.laid) l.net l.fn.ends l.fn.filling.at l.fn.filling.items.now l.fn.slots l.fn.filling.first l.fn.filling.count l.number
          l.fn.stored.locations.items l.stored.locations.items;
    }
