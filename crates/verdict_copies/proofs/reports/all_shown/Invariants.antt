-- What was copied so far.
use Rattle.std.proofs.Common.{◌≡◌, take}
use Rattle.verdict_copies.proofs.reports.all_shown.Given as goal

abbrev pub invariant-loop-one : goal.invariant-loop-one
invariant-loop-one l = l.made.items ≡ take l.one-index l.from
