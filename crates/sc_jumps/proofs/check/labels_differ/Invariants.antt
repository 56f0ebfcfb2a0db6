use Rattle.std.proofs.Common.{◌≡◌, drop}
use Rattle.sc_jumps.specs.Jumps.{labels_differ}
use Rattle.sc_jumps.proofs.check.labels_differ.Given as goal

abbrev pub invariant-loop-pos : goal.invariant-loop-pos
invariant-loop-pos l = labels_differ (drop l.pos-index l.again) l.walk ≡ labels_differ l.fn.again l.fn.walk
