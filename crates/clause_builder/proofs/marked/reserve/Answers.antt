-- An empty place more.
use Rattle.std.proofs.Common.{◌∙◌, ap}
use Rattle.clause_builder.specs.Cones.{lit_at}
use Rattle.clause_builder.proofs.Marks.{none_more}
use Rattle.clause_builder.proofs.marked.reserve.Goals as goal

pub loop-gate-preserved : goal.loop-gate-preserved
loop-gate-preserved c a = none_more _ _ a c.in_ok-push.ensures.items ∙ c.loop-gate.invariant a

pub returns-in_err-push-clause-same : goal.returns-in_err-push-clause-same
returns-in_err-push-clause-same c a = ap (λ ls. lit_at ls a) c.in_err-push.ensures.items ∙ c.loop-gate.invariant a
