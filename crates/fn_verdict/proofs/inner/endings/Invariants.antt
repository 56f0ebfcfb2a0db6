use Rattle.std.proofs.Common.{◌≡◌, [], drop}
use Rattle.location_texts.specs.Seen.{texts}
use Rattle.fn_verdict.specs.Inner.{endings}
use Rattle.fn_verdict.proofs.inner.endings.Given as goal

abbrev pub invariant-loop-at : goal.invariant-loop-at
invariant-loop-at g l =
    record {
      rest : endings (texts l.texts) (g.A.Answerer.answers l.fn.asks) l.found.items (drop l.at-index l.at-items)
          ≡ endings (texts l.texts) (g.A.Answerer.answers l.fn.asks) [] l.at-items;
      answers : g.A.Answerer.answers l.asks ≡ g.A.Answerer.answers l.fn.asks;
    }
