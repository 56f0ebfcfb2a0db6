use Rattle.std.proofs.Common.{◌≡◌, ◌++◌, take}
use Rattle.std.specs.List.{flat_map}
use Rattle.fn_verdict.specs.Leaks.{leak}
use Rattle.fn_verdict.proofs.leaks.put_leaks.Given as goal

abbrev pub invariant-loop-pos : goal.invariant-loop-pos
invariant-loop-pos g l =
    record {
      found : l.found.items ≡ l.fn.found.items ++ flat_map (leak (g.A.Answerer.answers l.fn.asks)) (take l.pos-index l.pos-items);
      answers : g.A.Answerer.answers l.asks ≡ g.A.Answerer.answers l.fn.asks;
    }
