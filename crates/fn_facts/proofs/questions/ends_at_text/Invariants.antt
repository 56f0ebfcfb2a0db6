use Rattle.bit_net.specs.Runs.{Grown}
use Rattle.location_texts.specs.Seen.{texts}
use Rattle.fn_facts.specs.Seen.{ends_below}
use Rattle.fn_facts.specs.Showing.{IsReady, Shows}
use Rattle.fn_facts.proofs.questions.ends_at_text.Given as goal

-- whether the run ends by an error at one of the first locations, if that has the text
abbrev pub invariant-loop-k : goal.invariant-loop-k
invariant-loop-k l =
    record {
      grown : Grown l.fn.net l.net;
      ready : IsReady l.around l.net;
      some : Shows l.around l.net (λ o. ends_below (texts l.texts) l.text o.ended l.k) l.some.at;
    }
