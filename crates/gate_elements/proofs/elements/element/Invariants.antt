use Rattle.bit_net.specs.Runs.{Grown}
use Rattle.layout_base.specs.Seen as laid
use Rattle.gate_elements.specs.Elements.{HasElements}
use Rattle.gate_elements.proofs.elements.element.Given as goal

-- the elements among the first locations are there
abbrev pub invariant-loop-at : goal.invariant-loop-at
invariant-loop-at l =
    record {
      grown : Grown l.fn.net l.net;
      elements : HasElements l.net (laid.layout_of l.fn.layout.places.now) l.fn.array.pairs.items l.fn.index.bits.items l.at l.pairs.items l.found.at;
    }
