-- Tables of C11 6.5: what a token means as an operator.
use Rattle.std.specs.Prelude.{ℕ, Bool, true, false, Option, Some, None}
use Rattle.sc_tree.specs.declared.token.Punct.{Punct}
use Rattle.sc_tree.specs.declared.token.Punct.TheVariants as p
use Rattle.sc_tree.specs.declared.op.BinaryOp.{BinaryOp}
use Rattle.sc_tree.specs.declared.op.BinaryOp.TheVariants as b
use Rattle.sc_tree.specs.declared.op.UnaryOp.{UnaryOp}
use Rattle.sc_tree.specs.declared.op.UnaryOp.TheVariants as u
use Rattle.sc_tree.specs.declared.op.AssignOp.{AssignOp}
use Rattle.sc_tree.specs.declared.op.AssignOp.TheVariants as a
use Rattle.sc_tree.specs.declared.op.Step.{Step}
use Rattle.sc_tree.specs.declared.op.Step.TheVariants as s

-- An operator between two operands, and how tightly it binds: 1 binds most tightly, 10 least.
pub record Binding : Type 0 where
  pub level : ℕ
  pub op : BinaryOp

abbrev pub binding : ℕ → BinaryOp → Option Binding
binding level op = Some (record { level = level; op = op })

-- C11 6.5.5 to 6.5.14
abbrev pub binary : Punct → Option Binding
binary p.Star = binding 1 b.Mul
binary p.Slash = binding 1 b.Div
binary p.Percent = binding 1 b.Rem
binary p.Plus = binding 2 b.Add
binary p.Minus = binding 2 b.Sub
binary p.ShiftLeft = binding 3 b.ShiftLeft
binary p.ShiftRight = binding 3 b.ShiftRight
binary p.Less = binding 4 b.Less
binary p.Greater = binding 4 b.Greater
binary p.LessEqual = binding 4 b.LessEqual
binary p.GreaterEqual = binding 4 b.GreaterEqual
binary p.EqualEqual = binding 5 b.Equal
binary p.NotEqual = binding 5 b.NotEqual
binary p.Amp = binding 6 b.BitAnd
binary p.Caret = binding 7 b.BitXor
binary p.Pipe = binding 8 b.BitOr
binary p.AmpAmp = binding 9 b.And
binary p.PipePipe = binding 10 b.Or
binary _ = None

-- C11 6.5.3.2 and 6.5.3.3
abbrev pub unary : Punct → Option UnaryOp
unary p.Amp = Some u.Address
unary p.Star = Some u.Deref
unary p.Plus = Some u.Plus
unary p.Minus = Some u.Minus
unary p.Tilde = Some u.Complement
unary p.Not = Some u.Not
unary _ = None

-- C11 6.5.2.4 and 6.5.3.1
abbrev pub step : Punct → Option Step
step p.PlusPlus = Some s.Up
step p.MinusMinus = Some s.Down
step _ = None

-- C11 6.5.16
abbrev pub assign : Punct → Option AssignOp
assign p.Assign = Some a.Set
assign p.StarAssign = Some a.Mul
assign p.SlashAssign = Some a.Div
assign p.PercentAssign = Some a.Rem
assign p.PlusAssign = Some a.Add
assign p.MinusAssign = Some a.Sub
assign p.ShiftLeftAssign = Some a.ShiftLeft
assign p.ShiftRightAssign = Some a.ShiftRight
assign p.AmpAssign = Some a.BitAnd
assign p.CaretAssign = Some a.BitXor
assign p.PipeAssign = Some a.BitOr
assign _ = None

-- whether a field is taken of what a pointer leads to (C11 6.5.2.3)
abbrev pub field : Punct → Option Bool
field p.Dot = Some false
field p.Arrow = Some true
field _ = None
