use Rattle.bit_net.specs.Runs.{Grown}
use Rattle.reach_net.specs.Walks.{rows_of}
use Rattle.reach_net.proofs.WalkLemmas.{ReachedSoFar}
use Rattle.reach_net.proofs.rows.reached.Given as goal

-- the first objects are let through
abbrev pub invariant-loop-k : goal.invariant-loop-k
invariant-loop-k l = record {
  grown : Grown l.fn.net l.net;
  so_far : ReachedSoFar l.net l.k (rows_of l.fn.points.items) l.fn.roots.items (rows_of l.rows.items) l.found.items;
}
