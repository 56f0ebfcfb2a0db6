use Rattle.sc_gather.specs.Seen.{source_of}
use Rattle.location_texts.specs.Seen.{texts}
use Rattle.fn_verdict.proofs.Whole.{done_is}
use Rattle.fn_verdict.proofs.reports.verdict.Goals as goal

pub returns-clause-verdict : goal.returns-clause-verdict
returns-clause-verdict g c =
    done_is (source_of c.args.here.now) (texts c.args.texts.now) (g.A.Answerer.answers c.args.asks.now) _ _ _ _
    c.touched.ensures.answers c.summary.ensures.answers c.in_ok-summary.ensures.summary c.in_ok-reports.ensures.reports
