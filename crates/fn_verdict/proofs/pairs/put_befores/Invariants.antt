use Rattle.std.proofs.Common.{◌≡◌, ◌++◌, take}
use Rattle.std.specs.List.{flat_map}
use Rattle.fn_verdict.specs.Pairs.{pairs_of}
use Rattle.fn_verdict.proofs.pairs.put_befores.Given as goal

abbrev pub invariant-loop-before : goal.invariant-loop-before
invariant-loop-before l =
    l.found.items
    ≡ l.fn.found.items ++ flat_map (λ b. flat_map (λ r. pairs_of l.given b r l.states) l.results) (take l.before-index l.befores)
