use Rattle.std.proofs.Common.{◌≡◌, ◌++◌, take}
use Rattle.std.specs.List.{flat_map}
use Rattle.fn_verdict.specs.Pairs.{pairs_of}
use Rattle.fn_verdict.proofs.pairs.put_results.Given as goal

abbrev pub invariant-loop-gives : goal.invariant-loop-gives
invariant-loop-gives l =
    l.found.items ≡ l.fn.found.items ++ flat_map (λ r. pairs_of l.given l.before r l.states) (take l.gives-index l.results)
