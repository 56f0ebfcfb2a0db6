use Rattle.gate_elements.proofs.Leading.{pushed, not_pushed}
use Rattle.gate_elements.proofs.elements.push_pair.Goals as goal

pub returns-then-is_never : goal.returns-then-is_never
returns-then-is_never c = not_pushed _ c.args.pair _ (c.is_never.ensures.never c.if-is_never.true)

pub returns : goal.returns
returns c = pushed _ c.args.pair _ _ c.requires c.in_ok-push.ensures.ok
