use Rattle.bit_net.specs.Runs.{Grown}
use Rattle.fn_facts.specs.Showing.{IsReady, ShowsAtExit}
use Rattle.fn_walks.specs.Seen.{any_below, comes_over}
use Rattle.fn_walks.specs.Walks.{IsWalk}
use Rattle.fn_walks.proofs.walking.comes.Given as goal

-- whether walks come over one of the first objects
abbrev pub invariant-loop-i : goal.invariant-loop-i
invariant-loop-i l =
    record {
      grown : Grown l.fn.net l.net;
      ready : IsReady l.around l.net;
      walk : IsWalk l.around l.net l.walk;
      some : ShowsAtExit l.around l.net (λ o. any_below (comes_over l.walk.from l.walk.through.items l.n) o l.i) l.some.at;
    }
