use Rattle.std.proofs.Common.{◌++◌, take}
use Rattle.bit_net.specs.Runs.{Grown}
use Rattle.gl_sets.specs.Sets.{IsMadeSoFar, chosen_guard}
use Rattle.gl_sets.proofs.sets.join.Given as goal

-- the targets of the first pairs of a are seen
abbrev pub invariant-loop-pair : goal.invariant-loop-pair
invariant-loop-pair l = record {
  grown : Grown l.fn.net l.net;
  so_far : IsMadeSoFar l.net (λ v t. chosen_guard v l.c.at l.fn.a.pairs.items l.fn.b.pairs.items t) (take l.pair-index l.fn.a.pairs.items) l.pairs.items;
}

-- those of a and of the first pairs of b are seen
abbrev pub invariant-loop-pair-2 : goal.invariant-loop-pair-2
invariant-loop-pair-2 l = record {
  grown : Grown l.fn.net l.net;
  so_far : IsMadeSoFar l.net (λ v t. chosen_guard v l.c.at l.fn.a.pairs.items l.fn.b.pairs.items t)
      (l.fn.a.pairs.items ++ take l.pair-index l.fn.b.pairs.items) l.pairs.items;
}
