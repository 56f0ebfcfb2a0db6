use Rattle.std.proofs.Common.{◌≡◌, take}
use Rattle.fn_rows.specs.Asked.{those}
use Rattle.fn_rows.proofs.asking.those.Given as goal

abbrev pub invariant-loop-n : goal.invariant-loop-n
invariant-loop-n g l =
    record {
      found : l.found.items ≡ those (g.A.Answerer.answers l.fn.asks) l.listed (take l.n-index l.numbers);
      answers : g.A.Answerer.answers l.asks ≡ g.A.Answerer.answers l.fn.asks;
    }
