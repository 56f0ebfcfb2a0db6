use Rattle.std.proofs.Common.{◌≡◌, drop}
use Rattle.std.specs.List.{find}
use Rattle.fn_verdict.specs.Pairs.{both_stand}
use Rattle.fn_verdict.proofs.ambiguous.first_pair.Given as goal

abbrev pub invariant-loop-pair : goal.invariant-loop-pair
invariant-loop-pair g l =
    record {
      rest : find (both_stand (g.A.Answerer.answers l.fn.asks) l.at) (drop l.pair-index l.pairs) ≡ find (both_stand (g.A.Answerer.answers l.fn.asks) l.at) l.pairs;
      answers : g.A.Answerer.answers l.asks ≡ g.A.Answerer.answers l.fn.asks;
    }
