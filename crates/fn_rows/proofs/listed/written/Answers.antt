use Rattle.std.proofs.Common.{◌∙◌}
use Rattle.sc_gather.specs.Seen.{source_of}
use Rattle.location_texts.specs.Seen.{texts}
use Rattle.fn_rows.proofs.Lists.{written_is}
use Rattle.fn_rows.proofs.listed.written.Goals as goal

pub returns-clause-written : goal.returns-clause-written
returns-clause-written g c =
    c.in_ok-listed.ensures.those
    ∙ written_is (source_of c.args.here.now) (texts c.args.texts.now) (g.A.Answerer.answers c.args.asks.now) _
    (c.as_slice.ensures.value ∙ c.in_ok-all.ensures)
