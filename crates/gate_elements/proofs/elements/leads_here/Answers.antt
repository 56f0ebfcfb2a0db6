use Rattle.std.proofs.Common.{sym, ◌∙◌}
use Rattle.gate_elements.proofs.Leading.{never_here, not_first, first_here}
use Rattle.gate_elements.proofs.elements.leads_here.Goals as goal

pub returns-in-None-clause-ok : goal.returns-in-None-clause-ok
returns-in-None-clause-ok c = never_here _ _ _ _ c.args.at _ (sym c.element_origin.ensures ∙ c.in-None.is) c.constant.ensures

pub returns-in_ok-gate-in-Some-clause-ok : goal.returns-in_ok-gate-in-Some-clause-ok
returns-in_ok-gate-in-Some-clause-ok c =
    first_here _ _ _ _ c.args.at _ c.in-Some.element _ (sym c.element_origin.ensures ∙ c.in-Some.is) c.part-part.ensures
    (sym c.is_location.ensures ∙ c.if-is_location.true) c.in_ok-gate-in-Some.ensures.ok

pub returns-else-is_location-clause-ok : goal.returns-else-is_location-clause-ok
returns-else-is_location-clause-ok c =
    not_first _ _ _ _ c.args.at _ c.in-Some.element _ (sym c.element_origin.ensures ∙ c.in-Some.is) c.part-part.ensures
    (sym c.is_location.ensures ∙ c.if-is_location.false) c.constant-never.ensures
