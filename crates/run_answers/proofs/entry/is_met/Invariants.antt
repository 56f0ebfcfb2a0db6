use Rattle.std.proofs.Common.{◌≡◌, ◌-◌, length}
use Rattle.run_answers.specs.Seen.{over, met_by, is_met}
use Rattle.run_answers.proofs.entry.is_met.Given as goal

abbrev pub invariant-loop : goal.invariant-loop
invariant-loop l =
    met_by (over l.over) (length (over l.over).layout.locations - l.counter) l.up ≡ is_met (over l.fn.over) l.fn.at
