use Rattle.bit_net.specs.Runs.{Grown}
use Rattle.gl_store.proofs.StoreLemmas.{StoredSoFar}
use Rattle.gl_store.proofs.stores.store_into.Given as goal

-- the value is written at the targets of the first pairs
abbrev pub invariant-loop-pair : goal.invariant-loop-pair
invariant-loop-pair l = record {
  grown : Grown l.fn.net l.net;
  so_far : StoredSoFar l.net l.fn.live.at l.fn.at l.pair-index l.fn.v l.fn.locations l.locations;
}
