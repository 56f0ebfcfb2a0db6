use Rattle.sc_gather.specs.Seen.{source_of}
use Rattle.sc_world.specs.Verdict.{write_of}
use Rattle.location_texts.specs.Seen.{texts}
use Rattle.fn_rows.proofs.Lists.{map_turn}
use Rattle.fn_rows.proofs.writes.writes.Goals as goal

pub loop-at-preserved : goal.loop-at-preserved
loop-at-preserved g c =
    let q = g.A.Answerer.answers c.args.asks.now in
    map_turn (write_of (source_of c.args.here.now) (texts c.args.texts.now) q) _ _ 0 _ _ _
    c.loop-at-test.true c.loop-at.invariant (c.in_ok-write_of.ensures q) c.in_ok-push.ensures.items
