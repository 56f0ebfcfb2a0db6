-- The manner in which an operator between two operands treats them (C11 6.5.5 to 6.5.14), and two questions on
-- such operands.
use Rattle.std.specs.Prelude.{Bool, ◌&&◌, ◌||◌}
use Rattle.sc_tree.specs.declared.op.BinaryOp.{BinaryOp}
use Rattle.sc_tree.specs.declared.op.BinaryOp.TheVariants as op
use Rattle.sc_typed.specs.declared.expr.TExpr.{TExpr}
use Rattle.sc_typed.specs.Types.{is_integer, is_pointer}
use Rattle.sc_manners.specs.declared.manners.Manner.{Manner}
use Rattle.sc_manners.specs.declared.manners.Manner.TheVariants as by
use Rattle.sc_rules.specs.Conversions.{type_of}

-- the manner in which an operator treats its operands
abbrev pub manner_of : BinaryOp → Manner
manner_of op.And = by.Logical
manner_of op.Or = by.Logical
manner_of op.Equal = by.Equality
manner_of op.NotEqual = by.Equality
manner_of op.Less = by.Ordering
manner_of op.Greater = by.Ordering
manner_of op.LessEqual = by.Ordering
manner_of op.GreaterEqual = by.Ordering
manner_of op.ShiftLeft = by.Shifting
manner_of op.ShiftRight = by.Shifting
manner_of op.Add = by.Additive
manner_of op.Sub = by.Additive
manner_of _ = by.Arithmetic

abbrev pub both_integers : TExpr → TExpr → Bool
both_integers a b = is_integer (type_of a) && is_integer (type_of b)

abbrev pub some_pointer : TExpr → TExpr → Bool
some_pointer a b = is_pointer (type_of a) || is_pointer (type_of b)
