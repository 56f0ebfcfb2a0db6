use Rattle.std.proofs.Common.{◌≡◌, ◌++◌, take}
use Rattle.std.specs.List.{flat_map}
use Rattle.fn_verdict.specs.Inner.{inner}
use Rattle.fn_verdict.proofs.inner.put_inners.Given as goal

abbrev pub invariant-loop-text : goal.invariant-loop-text
invariant-loop-text g l =
    record {
      found : l.found.items ≡ l.fn.found.items ++ flat_map (inner (g.A.Answerer.answers l.fn.asks)) (take l.text-index l.text-items);
      answers : g.A.Answerer.answers l.asks ≡ g.A.Answerer.answers l.fn.asks;
    }
