use Rattle.std.proofs.Common.{◌≡◌, take}
use Rattle.fn_rows.specs.Asked.{standing}
use Rattle.fn_rows.proofs.asking.standing.Given as goal

abbrev pub invariant-loop-row : goal.invariant-loop-row
invariant-loop-row g l =
    record {
      found : l.found.items ≡ standing (g.A.Answerer.answers l.fn.asks) l.subject (take l.row-index l.candidates);
      answers : g.A.Answerer.answers l.asks ≡ g.A.Answerer.answers l.fn.asks;
    }
