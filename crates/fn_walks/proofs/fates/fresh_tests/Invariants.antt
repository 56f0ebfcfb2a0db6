use Rattle.bit_net.specs.Runs.{Grown}
use Rattle.fn_facts.specs.Showing.{IsReady}
use Rattle.fn_walks.specs.Seen.{is_fresh_at}
use Rattle.fn_walks.specs.Walks.{Each, IsWalk, target_in}
use Rattle.fn_walks.proofs.fates.fresh_tests.Given as goal

-- the tests of the first pairs
abbrev pub invariant-loop-i : goal.invariant-loop-i
invariant-loop-i l =
    record {
      grown : Grown l.fn.net l.net;
      ready : IsReady l.around l.net;
      walk : IsWalk l.around l.net l.walk;
      so_far : Each l.around l.net (λ o t. is_fresh_at o l.walk.from t) (target_in l.pairs) l.i l.tests.items;
    }
