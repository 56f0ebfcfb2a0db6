use Rattle.std.proofs.Common.{◌≡◌, length}
use Rattle.std.specs.List.{list_any}
use Rattle.run_answers.specs.Rest.{rest}
use Rattle.run_answers.specs.Seen.{over, is_lost_from, loses}
use Rattle.run_answers.proofs.objects.loses.Given as goal

abbrev pub invariant-loop-k : goal.invariant-loop-k
invariant-loop-k l =
    list_any (is_lost_from (over l.over) l.pos) (rest l.k (length (over l.over).layout.locations))
    ≡ loses (over l.fn.over) l.fn.pos
