use Rattle.std.proofs.Common.{◌∙◌}
use Rattle.sc_gather.specs.Seen.{source_of}
use Rattle.location_texts.specs.Seen.{texts}
use Rattle.fn_verdict.proofs.Whole.{reports_in_turn}
use Rattle.fn_verdict.proofs.reports.reports.Goals as goal

pub returns-clause-reports : goal.returns-clause-reports
returns-clause-reports g c =
    c.from_vec.ensures
    ∙ reports_in_turn (source_of c.args.here.now) (texts c.args.texts.now) (g.A.Answerer.answers c.args.asks.now) _ _ _ _ _ _ _ _ _ _ _ _ _
    c.requires.touched c.requires.parts.givens c.requires.parts.states c.requires.parts.results (c.as_slice.ensures.value ∙ c.in_ok-pairs.ensures)
    c.put_doubles.ensures.answers c.put_all_ambiguous.ensures.answers c.put_inners.ensures.answers
    c.new-found.ensures.items c.in_ok-put_doubles.ensures.found c.in_ok-put_all_ambiguous.ensures.found
    c.in_ok-put_inners.ensures.found c.in_ok-put_leaks.ensures.found
