use Rattle.std.proofs.Common.{◌≡◌, ◌++◌, drop}
use Rattle.fn_verdict.specs.Pairs.{pairs_of}
use Rattle.fn_verdict.proofs.pairs.put_ones.Given as goal

abbrev pub invariant-loop-k : goal.invariant-loop-k
invariant-loop-k l =
    l.found.items ++ pairs_of l.given l.before l.gives (drop l.k l.states) ≡ l.fn.found.items ++ pairs_of l.fn.given l.fn.before l.fn.gives l.fn.states
