-- Operators between two operands (C11 6.5.5 to 6.5.14), by the manner in which they treat them: what each makes
-- of operands that have their types, or which fault it finds.
use Rattle.std.specs.Prelude.{Bool, not, ◌&&◌, ◌||◌, Option, Some, None, if◌then◌else◌}
use Rattle.sc_base.specs.declared.skip.Unsupported.TheVariants as u
use Rattle.sc_base.specs.declared.skip.IllTyped.TheVariants as i
use Rattle.sc_tree.specs.declared.op.BinaryOp.{BinaryOp}
use Rattle.sc_tree.specs.declared.ctype.CType.{CType}
use Rattle.sc_tree.specs.declared.ctype.CType.TheVariants as ty
use Rattle.sc_tree.specs.declared.ctype.IntKind.TheVariants as kind
use Rattle.sc_tree.specs.declared.ctype.Widths.{Widths}
use Rattle.sc_tree.specs.declared.expr.Place.{Place}
use Rattle.sc_typed.specs.declared.expr.TExpr.{TExpr}
use Rattle.sc_typed.specs.declared.expr.What.{What}
use Rattle.sc_typed.specs.declared.expr.What.TheVariants as what
use Rattle.sc_typed.specs.Types.{is_pointer, is_scalar, promoted_kind}
use Rattle.sc_typed.specs.Constants.{is_null_constant}
use Rattle.sc_manners.specs.declared.manners.Manner.{Manner}
use Rattle.sc_manners.specs.declared.manners.Manner.TheVariants as by
use Rattle.sc_manners.specs.Manners.{manner_of, both_integers, some_pointer}
use Rattle.sc_rules.specs.Walks.{Check, done, unsupported, ill_typed}
use Rattle.sc_rules.specs.Conversions.{node, type_of, to, promote, common_of}

abbrev pub int : CType
int = ty.Int kind.Int

abbrev pub made : What → CType → Place → Check (Option TExpr)
made w t p = done (Some (node w t p))

-- both operands in their common kind
abbrev pub in_common : Widths → BinaryOp → TExpr → TExpr → What
in_common w o a b = what.Binary o (to (common_of w a b) a) (to (common_of w a b) b)

-- both operands in their common kind, which is the kind of the result (C11 6.5.5, 6.5.6, 6.5.10 to 6.5.12)
abbrev pub on_common : Widths → BinaryOp → Place → TExpr → TExpr → Check (Option TExpr)
on_common w o p a b =
    if both_integers a b
    then made (in_common w o a b) (common_of w a b) p
    else ill_typed i.Operand p.token

-- both operands in their common kind, and an `int` as the result (C11 6.5.8, 6.5.9)
abbrev pub compared : Widths → BinaryOp → Place → TExpr → TExpr → Check (Option TExpr)
compared w o p a b =
    if both_integers a b
    then made (in_common w o a b) int p
    else ill_typed i.Operand p.token

-- arithmetic on pointers is not taken
abbrev pub additive : Widths → BinaryOp → Place → TExpr → TExpr → Check (Option TExpr)
additive w o p a b = if some_pointer a b then unsupported u.Arith p.token else on_common w o p a b

-- nor is their order
abbrev pub ordering : Widths → BinaryOp → Place → TExpr → TExpr → Check (Option TExpr)
ordering w o p a b = if some_pointer a b then unsupported u.Order p.token else compared w o p a b

-- whether two operands, of which one is a pointer, may be compared: each is a pointer or a null constant
abbrev pub is_comparable : Widths → TExpr → Bool
is_comparable w e = is_pointer (type_of e) || is_null_constant w e

-- whether the left operand goes to the right one's type: it is no pointer, or a null constant beside one that
-- is none
abbrev pub left_follows : Widths → TExpr → TExpr → Bool
left_follows w a b = not (is_pointer (type_of a)) || (is_null_constant w a && not (is_null_constant w b))

abbrev pub pointers_compared : Widths → BinaryOp → Place → TExpr → TExpr → TExpr
pointers_compared w o p a b =
    if left_follows w a b
    then node (what.Binary o (to (type_of b) a) b) int p
    else node (what.Binary o a (to (type_of a) b)) int p

abbrev pub pointer_equality : Widths → BinaryOp → Place → TExpr → TExpr → Check (Option TExpr)
pointer_equality w o p a b =
    if is_comparable w a && is_comparable w b
    then done (Some (pointers_compared w o p a b))
    else ill_typed i.Operand p.token

abbrev pub equality : Widths → BinaryOp → Place → TExpr → TExpr → Check (Option TExpr)
equality w o p a b = if some_pointer a b then pointer_equality w o p a b else compared w o p a b

-- each operand promoted, and the left one's kind as that of the result (C11 6.5.7)
abbrev pub shifting : BinaryOp → Place → TExpr → TExpr → Check (Option TExpr)
shifting o p a b =
    if both_integers a b
    then made (what.Binary o (promote a) (promote b)) (ty.Int (promoted_kind (type_of a))) p
    else ill_typed i.Operand p.token

-- both operands compared with 0 or null (C11 6.5.13, 6.5.14)
abbrev pub logical : BinaryOp → Place → TExpr → TExpr → Check (Option TExpr)
logical o p a b =
    if is_scalar (type_of a) && is_scalar (type_of b)
    then made (what.Binary o a b) int p
    else ill_typed i.Operand p.token

abbrev pub binary_by : Manner → Widths → BinaryOp → Place → TExpr → TExpr → Check (Option TExpr)
binary_by by.Logical w o p a b = logical o p a b
binary_by by.Equality w o p a b = equality w o p a b
binary_by by.Ordering w o p a b = ordering w o p a b
binary_by by.Shifting w o p a b = shifting o p a b
binary_by by.Additive w o p a b = additive w o p a b
binary_by by.Arithmetic w o p a b = on_common w o p a b

abbrev pub binary : Widths → BinaryOp → Place → TExpr → TExpr → Check (Option TExpr)
binary w o p a b = binary_by (manner_of o) w o p a b
