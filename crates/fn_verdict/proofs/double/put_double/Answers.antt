use Rattle.std.proofs.Common.{◌++◌, ap, ◌∙◌}
use Rattle.sc_gather.specs.Seen.{source_of}
use Rattle.sc_world.specs.Verdict.{double_for}
use Rattle.location_texts.specs.Seen.{texts}
use Rattle.fn_verdict.proofs.Same.{double_is}
use Rattle.fn_verdict.proofs.double.put_double.Goals as goal

pub returns-clause-found : goal.returns-clause-found
returns-clause-found g c =
    let s = source_of c.args.here.now in
    let x = texts c.args.texts.now in
    c.in_ok-put_report.ensures.found
    ∙ ap (λ rs. c.args.found.now.items ++ rs)
    (ap (λ q. double_for s x q c.args.at c.in_ok-given.given) c.first_double.ensures.answers
    ∙ double_is s x (g.A.Answerer.answers c.args.asks.now) c.args.at _ _ _ c.requires.parts.givens (c.as_slice.ensures.value ∙ c.requires.parts.states) c.in_ok-given.ensures.first)
