use Rattle.std.proofs.Common.{sym, ap, ◌∙◌}
use Rattle.sc_world.specs.Tree.{is_void}
use Rattle.flow_gates.proofs.Casting.{both_so, first_not}
use Rattle.flow_gates.proofs.dropping.are_void.Goals as goal

pub returns-then-is_void : goal.returns-then-is_void
returns-then-is_void c = λ structs.
    both_so _ _ c.is_void.result _ (c.is_void.ensures ∙ ap is_void (c.type_of.ensures structs)) c.is_void-then-is_void.ensures c.if-is_void.true

pub returns-else-is_void : goal.returns-else-is_void
returns-else-is_void c = λ structs. first_not _ _ c.is_void.result (c.is_void.ensures ∙ ap is_void (c.type_of.ensures structs)) c.if-is_void.false
