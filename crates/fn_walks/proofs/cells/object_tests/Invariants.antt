use Rattle.fn_walks.specs.Seen.{is_object}
use Rattle.fn_walks.specs.Walks.{Each, target_in}
use Rattle.fn_walks.proofs.cells.object_tests.Given as goal

-- the tests of the first pairs
abbrev pub invariant-loop-i : goal.invariant-loop-i
invariant-loop-i l = record { so_far : Each l.around l.net (λ o t. is_object o.layout t l.n) (target_in l.pairs) l.i l.tests.items }
