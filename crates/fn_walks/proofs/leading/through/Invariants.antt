use Rattle.fn_walks.specs.Walks.{CoversBelow}
use Rattle.fn_walks.proofs.leading.through.Given as goal

-- the first locations are covered
abbrev pub invariant-loop-k : goal.invariant-loop-k
invariant-loop-k l = record { covers : CoversBelow l.around l.from l.objects.items l.k }
