use Rattle.bit_net.specs.Runs.{Grown}
use Rattle.run_store.specs.Concrete.{width_kind}
use Rattle.gl_store.proofs.StoreLemmas.{LoadedSoFar}
use Rattle.gl_store.proofs.stores.load_from.Given as goal

-- the first pairs are read
abbrev pub invariant-loop-pair : goal.invariant-loop-pair
invariant-loop-pair l = record {
  grown : Grown l.fn.net l.net;
  so_far : LoadedSoFar l.net l.fn.locations l.fn.at l.pair-index (width_kind l.fn.width) l.found;
}
