use Rattle.std.proofs.Common.{◌≡◌, ◌-◌, length}
use Rattle.run_answers.specs.Seen.{over, walked, reached}
use Rattle.run_answers.proofs.walks.reached.Given as goal

abbrev pub invariant-loop : goal.invariant-loop
invariant-loop l =
    walked (length (over l.over).layout.locations - l.counter) (over l.over) l.objects.items
    ≡ reached (over l.fn.over) l.fn.from.items
