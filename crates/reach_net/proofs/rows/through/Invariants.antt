use Rattle.bit_net.specs.Runs.{Grown}
use Rattle.reach_net.proofs.RowLemmas.{ThroughSoFar}
use Rattle.reach_net.proofs.rows.through.Given as goal

-- the first rows have what they are to have
abbrev pub invariant-loop-row : goal.invariant-loop-row
invariant-loop-row l = record {
  grown : Grown l.fn.net l.net;
  so_far : ThroughSoFar l.net l.fn.k l.row-index l.fn.rows l.all.items;
}
