use Rattle.bit_net.specs.Runs.{Grown}
use Rattle.fn_facts.specs.Showing.{IsReady, ShowsAtExit}
use Rattle.fn_walks.specs.Seen.{any_below, is_lost_from}
use Rattle.fn_walks.specs.Walks.{IsWalk}
use Rattle.fn_walks.proofs.losing.loses.Given as goal

-- whether one of the first locations is an object of a call at the place, and lost
abbrev pub invariant-loop-k : goal.invariant-loop-k
invariant-loop-k l =
    record {
      grown : Grown l.fn.net l.net;
      ready : IsReady l.around l.net;
      walk : IsWalk l.around l.net l.walk;
      some : ShowsAtExit l.around l.net (λ o. any_below (is_lost_from l.pos) o l.k) l.some.at;
    }
