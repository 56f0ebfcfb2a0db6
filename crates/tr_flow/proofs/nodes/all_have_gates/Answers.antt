use Rattle.std.proofs.Common.{sym, ◌∙◌}
use Rattle.tr_flow.specs.Seen.{layout_of, source_of}
use Rattle.tr_flow.proofs.Having.{all_have_gates}
use Rattle.tr_flow.proofs.nodes.all_have_gates.Goals as goal

pub returns-clause-gates : goal.returns-clause-gates
returns-clause-gates c = λ is.
    all_have_gates (source_of c.args.steps.now) (layout_of c.args.steps.now) c.args.flow.now.nodes (sym c.all_pass.ensures ∙ is)
