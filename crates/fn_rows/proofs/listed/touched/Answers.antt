use Rattle.std.proofs.Common.{◌∙◌}
use Rattle.sc_gather.specs.Seen.{source_of}
use Rattle.location_texts.specs.Seen.{texts}
use Rattle.fn_rows.proofs.Lists.{touched_is}
use Rattle.fn_rows.proofs.listed.touched.Goals as goal

pub returns-clause-touched : goal.returns-clause-touched
returns-clause-touched g c =
    c.in_ok-listed.ensures.those
    ∙ touched_is (source_of c.args.here.now) (texts c.args.texts.now) (g.A.Answerer.answers c.args.asks.now) _
    (c.as_slice.ensures.value ∙ c.in_ok-all.ensures)
