use Rattle.std.proofs.Common.{sym, ap, ◌∙◌}
use Rattle.sc_flow.specs.declared.node.Expression.{Expression}
use Rattle.sc_flow.specs.Seen.{expression}
use Rattle.flow_turns.specs.Before.{drops_value}
use Rattle.flow_gates.proofs.dropping.drops_value.Goals as goal

pub returns-in-Source : goal.returns-in-Source
returns-in-Source c = λ structs. (c.drops_text.ensures structs ∙ sym (ap (λ (x : Expression). drops_value (expression structs x)) c.in-Source.is))

pub returns-in-Over : goal.returns-in-Over
returns-in-Over c = λ structs.
    (c.drops_over.ensures structs c.in-Over.field-1 c.in-Over.field-2 ∙ sym (ap (λ (x : Expression). drops_value (expression structs x)) c.in-Over.is))
