use Rattle.bit_net.specs.Runs.{Grown}
use Rattle.fn_facts.specs.Showing.{IsReady, ShowsAtExit}
use Rattle.fn_walks.specs.Seen.{any_below, held_here}
use Rattle.fn_walks.proofs.roots.is_held.Given as goal

-- whether one of the first locations holds the object
abbrev pub invariant-loop-k : goal.invariant-loop-k
invariant-loop-k l =
    record {
      grown : Grown l.fn.net l.net;
      ready : IsReady l.around l.net;
      some : ShowsAtExit l.around l.net (λ o. any_below (held_here l.beside l.n) o l.k) l.some.at;
    }
