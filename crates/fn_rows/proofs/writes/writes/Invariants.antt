use Rattle.std.proofs.Common.{◌≡◌, map, take}
use Rattle.sc_gather.specs.Seen.{source_of}
use Rattle.sc_world.specs.Verdict.{write_of}
use Rattle.location_texts.specs.Seen.{texts}
use Rattle.fn_rows.proofs.writes.writes.Given as goal

abbrev pub invariant-loop-at : goal.invariant-loop-at
invariant-loop-at g l =
    l.found.items ≡ map (write_of (source_of l.here) (texts l.texts) (g.A.Answerer.answers l.fn.asks)) (take l.at-index l.at-items)
