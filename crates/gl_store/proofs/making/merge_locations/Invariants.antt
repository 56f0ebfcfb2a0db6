use Rattle.bit_net.specs.Runs.{Grown}
use Rattle.gl_store.proofs.MakeLemmas.{MergedSoFar}
use Rattle.gl_store.proofs.making.merge_locations.Given as goal

-- the first locations are merged
abbrev pub invariant-loop-i : goal.invariant-loop-i
invariant-loop-i l = record {
  grown : Grown l.fn.net l.net;
  so_far : MergedSoFar l.net l.fn.c.at l.fn.a l.fn.b l.i l.locations.items;
}
