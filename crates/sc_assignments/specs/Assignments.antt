-- `++`, `--` (C11 6.5.2.4, 6.5.3.1) and assignment (C11 6.5.16): what each makes of operands that have their
-- types, or which faults it finds.
use Rattle.std.specs.Prelude.{Bool, true, false, ◌&&◌, Option, Some, None, if◌then◌else◌}
use Rattle.sc_base.specs.declared.skip.Unsupported.TheVariants as u
use Rattle.sc_base.specs.declared.skip.IllTyped.TheVariants as i
use Rattle.sc_tree.specs.declared.op.BinaryOp.{BinaryOp}
use Rattle.sc_tree.specs.declared.op.BinaryOp.TheVariants as op
use Rattle.sc_tree.specs.declared.op.AssignOp.{AssignOp}
use Rattle.sc_tree.specs.declared.op.AssignOp.TheVariants as assign
use Rattle.sc_tree.specs.declared.op.Step.{Step}
use Rattle.sc_tree.specs.declared.ctype.CType.{CType}
use Rattle.sc_tree.specs.declared.ctype.CType.TheVariants as ty
use Rattle.sc_tree.specs.declared.ctype.OpaqueKind.{OpaqueKind}
use Rattle.sc_tree.specs.declared.ctype.Widths.{Widths}
use Rattle.sc_tree.specs.declared.expr.Place.{Place}
use Rattle.sc_typed.specs.declared.expr.TExpr.{TExpr}
use Rattle.sc_typed.specs.declared.expr.What.{What}
use Rattle.sc_typed.specs.declared.expr.What.TheVariants as what
use Rattle.sc_typed.specs.Types.{is_integer, is_pointer, promoted_kind}
use Rattle.sc_typed.specs.Constants.{is_lvalue}
use Rattle.sc_manners.specs.declared.manners.Manner.{Manner}
use Rattle.sc_manners.specs.declared.manners.Manner.TheVariants as by
use Rattle.sc_manners.specs.Manners.{manner_of, both_integers, some_pointer}
use Rattle.sc_assignments.specs.declared.assignments.Working.{Working}
use Rattle.sc_rules.specs.Faults.{ill_typed_at, unsupported_at}
use Rattle.sc_rules.specs.Walks.{Check, ◌>>=◌, done, unsupported, ill_typed, holds_or}
use Rattle.sc_rules.specs.Conversions.{node, type_of, to, promote, common_of, opaque_kind, opaque_fault, decayed, converted}

-- `++` and `--` (C11 6.5.2.4, 6.5.3.1) of what stands as it is

abbrev pub stepped : CType → Place → Check Bool
stepped t p =
    if is_pointer t
    then holds_or false (unsupported_at u.Arith p.token)
    else holds_or (is_integer t) (ill_typed_at i.Operand p.token)

abbrev pub may_step : TExpr → Place → Check Bool
may_step a p = do
  counts ← stepped (type_of a) p
  names ← holds_or (is_lvalue a) (ill_typed_at i.Lvalue p.token)
  done (counts && names)

-- an object of an opaque type is not stepped
abbrev pub steps_unless : Option OpaqueKind → TExpr → Place → Check Bool
steps_unless None a p = may_step a p
steps_unless (Some k) a p = holds_or false (unsupported_at (opaque_fault k) p.first)

abbrev pub operand_if : Bool → TExpr → Option TExpr
operand_if true a = Some a
operand_if false a = None

-- the operand of `++` or `--`, where it is taken
abbrev pub step_operand : Place → TExpr → Check (Option TExpr)
step_operand p a = do
  allowed ← steps_unless (opaque_kind (type_of a)) (decayed a) p
  done (operand_if allowed (decayed a))

abbrev pub incremented : (TExpr → What) → Place → Option TExpr → Option TExpr
incremented form p None = None
incremented form p (Some a) = Some (node (form a) (type_of a) p)

abbrev pub pre_increment : Step → Place → TExpr → Check (Option TExpr)
pre_increment s p a = do
  x ← step_operand p a
  done (incremented (what.PreInc s) p x)

abbrev pub post_increment : Step → Place → TExpr → Check (Option TExpr)
post_increment s p a = do
  x ← step_operand p a
  done (incremented (what.PostInc s) p x)

-- Assignment (C11 6.5.16). The left side stands as it is, the right side is a value.

-- the operator that `+=` and its kin work with; none of `=`
abbrev pub assigned_operator : AssignOp → Option BinaryOp
assigned_operator assign.Set = None
assigned_operator assign.Mul = Some op.Mul
assigned_operator assign.Div = Some op.Div
assigned_operator assign.Rem = Some op.Rem
assigned_operator assign.Add = Some op.Add
assigned_operator assign.Sub = Some op.Sub
assigned_operator assign.ShiftLeft = Some op.ShiftLeft
assigned_operator assign.ShiftRight = Some op.ShiftRight
assigned_operator assign.BitAnd = Some op.BitAnd
assigned_operator assign.BitXor = Some op.BitXor
assigned_operator assign.BitOr = Some op.BitOr

abbrev pub working_in : CType → TExpr → Working
working_in t b = record { ctype = t; right = b }

-- a shift promotes each side alone, any other operator brings both to their common kind
abbrev pub working_by : Manner → Widths → TExpr → TExpr → Working
working_by by.Shifting w a b = working_in (ty.Int (promoted_kind (type_of a))) (promote b)
working_by _ w a b = working_in (common_of w a b) (to (common_of w a b) b)

abbrev pub is_additive : Manner → Bool
is_additive by.Additive = true
is_additive _ = false

abbrev pub compound : Widths → BinaryOp → Place → TExpr → TExpr → Check (Option Working)
compound w o p a b =
    if is_additive (manner_of o) && some_pointer a b
    then unsupported u.Arith p.token
    else (if both_integers a b then done (Some (working_by (manner_of o) w a b)) else ill_typed i.Operand p.token)

abbrev pub working_if : Option TExpr → CType → Option Working
working_if None t = None
working_if (Some b) t = Some (working_in t b)

abbrev pub working_for : Widths → Option BinaryOp → Place → TExpr → TExpr → Check (Option Working)
working_for w None p a b = do
  r ← converted w i.Operand p.token (type_of a) b
  done (working_if r (type_of a))
working_for w (Some o) p a b = compound w o p a b

abbrev pub assigned : Bool → AssignOp → Place → TExpr → Option Working → Option TExpr
assigned names o p a None = None
assigned false o p a (Some r) = None
assigned true o p a (Some r) = Some (node (what.Assign o r.ctype a r.right) (type_of a) p)

abbrev pub assign_value : Widths → AssignOp → Place → TExpr → Option TExpr → Check (Option Working)
assign_value w o p a None = done None
assign_value w o p a (Some b) = working_for w (assigned_operator o) p a b

abbrev pub assignment_of : Widths → AssignOp → Place → TExpr → Option TExpr → Check (Option TExpr)
assignment_of w o p a b = do
  names ← holds_or (is_lvalue a) (ill_typed_at i.Lvalue p.token)
  r ← assign_value w o p a b
  done (assigned names o p a r)

-- an object of an opaque type is not assigned to
abbrev pub opaque_assigned : OpaqueKind → Place → TExpr → Check (Option TExpr)
opaque_assigned k p a = do
  _ ← holds_or (is_lvalue a) (ill_typed_at i.Lvalue p.token)
  unsupported (opaque_fault k) p.first

abbrev pub assignment_unless : Option OpaqueKind → Widths → AssignOp → Place → TExpr → Option TExpr → Check (Option TExpr)
assignment_unless None w o p a b = assignment_of w o p (decayed a) b
assignment_unless (Some k) w o p a b = opaque_assigned k p a

abbrev pub assignment : Widths → AssignOp → Place → TExpr → Option TExpr → Check (Option TExpr)
assignment w o p a b = assignment_unless (opaque_kind (type_of a)) w o p a b
