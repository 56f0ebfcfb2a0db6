use Rattle.bit_net.specs.Runs.{Grown}
use Rattle.sc_world.specs.Shows.{cell_leads}
use Rattle.fn_facts.specs.Showing.{IsReady, ShowsAtExit}
use Rattle.fn_walks.specs.Seen.{any_below}
use Rattle.fn_walks.proofs.leading.some_cell_leads.Given as goal

-- whether the cell of one of the first locations leads there
abbrev pub invariant-loop-k : goal.invariant-loop-k
invariant-loop-k l =
    record {
      grown : Grown l.fn.net l.net;
      ready : IsReady l.around l.net;
      some : ShowsAtExit l.around l.net (λ o. any_below (λ p k. cell_leads p l.from l.to k) o l.k) l.some.at;
    }
