use Rattle.bit_net.specs.Runs.{Grown}
use Rattle.gl_store.proofs.MarkLemmas.{MarkedSoFar}
use Rattle.gl_store.proofs.marks.mark_pairs.Given as goal

-- the flag is marked at the targets of the first pairs
abbrev pub invariant-loop-pair : goal.invariant-loop-pair
invariant-loop-pair l = record {
  grown : Grown l.fn.net l.net;
  so_far : MarkedSoFar l.net l.fn.live.at l.fn.at l.pair-index l.fn.flag l.fn.locations l.locations;
}
