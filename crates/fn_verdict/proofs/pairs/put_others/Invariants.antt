use Rattle.std.proofs.Common.{◌≡◌, ◌++◌, map, take}
use Rattle.fn_verdict.specs.Pairs.{pair}
use Rattle.fn_verdict.proofs.pairs.put_others.Given as goal

abbrev pub invariant-loop-other : goal.invariant-loop-other
invariant-loop-other l =
    l.found.items ≡ l.fn.found.items ++ map (pair l.given l.before l.gives l.one) (take l.other-index l.others)
