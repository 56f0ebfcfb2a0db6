use Rattle.std.proofs.Common.{refl}
use Rattle.gate_elements.proofs.Leading.{elements_step}
use Rattle.gate_elements.proofs.elements.add_element.Goals as goal

pub returns-clause-ok : goal.returns-clause-ok
returns-clause-ok c =
    elements_step _ _ _ _ _ _ c.args.at c.args.found.at _ _ c.in_ok-guard.guard _ _ c.in_ok-guard.ensures.grown c.in_ok-more.ensures.grown refl c.requires.elements
    c.in_ok-guard.ensures.ok c.in_ok-push_pair.ensures c.in_ok-more.ensures.ok
