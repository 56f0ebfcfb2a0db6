use Rattle.bit_net.specs.Runs.{Grown}
use Rattle.gl_sets.specs.Sets.{IsMovedSoFar}
use Rattle.gl_sets.proofs.mapping.moved.Given as goal

-- the first targets are there
abbrev pub invariant-loop-i : goal.invariant-loop-i
invariant-loop-i l = record {
  grown : Grown l.fn.net l.net;
  so_far : IsMovedSoFar l.net l.fn.s.pairs.items l.fn.targets l.i l.pairs.items;
}
