use Rattle.std.proofs.Common.{◌≡◌, drop, map, max}
use Rattle.sc_world.specs.Programs.{summary}
use Rattle.run_known.specs.Seen.{most_of}
use Rattle.run_known.proofs.calls.largest.Given as goal

abbrev pub invariant-loop-verdict : goal.invariant-loop-verdict
invariant-loop-verdict l = max l.most (most_of (map summary (drop l.verdict-index l.verdicts))) ≡ most_of (map summary l.fn.verdicts)
