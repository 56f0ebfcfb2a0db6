use Rattle.std.proofs.Common.{◌≡◌, ◌++◌, take}
use Rattle.std.specs.List.{flat_map}
use Rattle.location_texts.specs.Seen.{texts}
use Rattle.fn_verdict.specs.Pairs.{ambiguous}
use Rattle.fn_verdict.proofs.ambiguous.put_all_ambiguous.Given as goal

abbrev pub invariant-loop-at : goal.invariant-loop-at
invariant-loop-at g l =
    record {
      found : l.found.items ≡ l.fn.found.items ++ flat_map (ambiguous (texts l.texts).layout (g.A.Answerer.answers l.fn.asks) l.pairs) (take l.at-index l.touched);
      answers : g.A.Answerer.answers l.asks ≡ g.A.Answerer.answers l.fn.asks;
    }
