use Rattle.bit_net.specs.Runs.{Grown}
use Rattle.fn_facts.specs.Seen.{errs_below}
use Rattle.fn_facts.specs.Showing.{IsReady, Shows}
use Rattle.fn_facts.proofs.ends.errs_known.Given as goal

-- whether the run ends by an error at one of the first locations
abbrev pub invariant-loop-k : goal.invariant-loop-k
invariant-loop-k l =
    record {
      grown : Grown l.fn.net l.net;
      ready : IsReady l.around l.net;
      some : Shows l.around l.net (λ o. errs_below o.ended l.k) l.some.at;
    }
