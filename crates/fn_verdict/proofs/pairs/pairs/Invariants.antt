use Rattle.std.proofs.Common.{◌≡◌, take}
use Rattle.fn_verdict.specs.Pairs.{pairs}
use Rattle.fn_verdict.proofs.pairs.pairs.Given as goal

abbrev pub invariant-loop-given : goal.invariant-loop-given
invariant-loop-given l =
    l.found.items ≡ pairs (take l.given-index l.given-items) l.states l.parts.results.now
