use Rattle.std.proofs.Common.{◌≡◌, ◌++◌, take}
use Rattle.std.specs.List.{flat_map}
use Rattle.sc_gather.specs.Seen.{source_of}
use Rattle.sc_world.specs.Verdict.{double}
use Rattle.location_texts.specs.Seen.{texts}
use Rattle.fn_verdict.proofs.double.put_doubles.Given as goal

abbrev pub invariant-loop-at : goal.invariant-loop-at
invariant-loop-at g l =
    record {
      found : l.found.items ≡ l.fn.found.items ++ flat_map (double (source_of l.here) (texts l.texts) (g.A.Answerer.answers l.fn.asks)) (take l.at-index l.touched);
      answers : g.A.Answerer.answers l.asks ≡ g.A.Answerer.answers l.fn.asks;
    }
