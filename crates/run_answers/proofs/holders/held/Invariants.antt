use Rattle.std.proofs.Common.{◌≡◌, ◌++◌, length}
use Rattle.run_answers.specs.Rest.{rest}
use Rattle.run_answers.specs.Seen.{over, held_among, held}
use Rattle.run_answers.proofs.holders.held.Given as goal

abbrev pub invariant-loop-k : goal.invariant-loop-k
invariant-loop-k l =
    l.objects.items ++ held_among (over l.over) l.beside (rest l.k (length (over l.over).layout.locations))
    ≡ held (over l.fn.over) l.fn.first l.fn.beside
