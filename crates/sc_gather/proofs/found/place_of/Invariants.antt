use Rattle.std.proofs.Common.{◌≡◌, ◌+◌, drop}
use Rattle.sc_gather.specs.Seen.{calls_before}
use Rattle.sc_gather.proofs.found.place_of.Given as goal

abbrev pub invariant-loop-k : goal.invariant-loop-k
invariant-loop-k l = calls_before l.pos (drop l.k l.sites) + l.k ≡ calls_before l.pos l.sites
