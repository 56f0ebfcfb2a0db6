use Rattle.std.proofs.Common.{◌∙◌, ap}
use Rattle.sc_gather.specs.Seen.{source_of}
use Rattle.location_texts.specs.Seen.{texts}
use Rattle.fn_rows.proofs.Lists.{set_is}
use Rattle.fn_rows.specs.Params.{pointing}
use Rattle.fn_rows.specs.declared.params.PointsTo.TheVariants as to
use Rattle.fn_rows.proofs.listed.set_params.Goals as goal

pub returns-clause-set_params : goal.returns-clause-set_params
returns-clause-set_params g c =
    c.in_ok-listed.ensures.those
    ∙ set_is (source_of c.args.here.now) (texts c.args.texts.now) (g.A.Answerer.answers c.args.asks.now) _
    (c.as_slice.ensures.value ∙ c.in_ok-all.ensures ∙ ap (pointing to.Pointer 0) c.params.ensures)
