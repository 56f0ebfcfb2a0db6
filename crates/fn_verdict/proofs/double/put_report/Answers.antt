use Rattle.std.proofs.Common.{◌∙◌}
use Rattle.sc_gather.specs.Seen.{source_of}
use Rattle.location_texts.specs.Seen.{texts}
use Rattle.fn_verdict.proofs.Same.{double_put}
use Rattle.fn_verdict.proofs.double.put_report.Goals as goal

pub returns-in_ok-push-in-Some-clause-found : goal.returns-in_ok-push-in-Some-clause-found
returns-in_ok-push-in-Some-clause-found g c =
    double_put (source_of c.args.here.now) (texts c.args.texts.now) (g.A.Answerer.answers c.args.asks.now) c.args.at c.args.given _ _ _ _ _ _
    c.in-Some.is c.in_ok-path-in-Some.ensures c.in_ok-runs-in-Some.ensures.runs (c.as_slice.ensures.value ∙ c.requires.parts.states) c.in_ok-push-in-Some.ensures.items
