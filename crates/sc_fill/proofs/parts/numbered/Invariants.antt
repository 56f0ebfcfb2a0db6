-- The members so far, with those of the rest behind them, are those of all.
use Rattle.std.proofs.Common.{◌≡◌, ◌++◌, drop}
use Rattle.sc_fill.specs.Parts.{numbered}
use Rattle.sc_fill.proofs.parts.numbered.Given as goal

abbrev pub invariant-loop-k : goal.invariant-loop-k
invariant-loop-k l = l.members ++ numbered l.k (drop l.k l.fields) ≡ numbered 0 l.fields
