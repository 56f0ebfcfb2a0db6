-- The numbers of what has no parts: operators, kinds of types, places, names, and why a body is skipped.
use Rattle.std.specs.Prelude.{ℕ, Bool, true, false, Option, Some, None, List, [], ◌∷◌}
use Rattle.sc_base.specs.declared.pos.Pos.{Pos}
use Rattle.sc_base.specs.declared.pos.NameId.{NameId}
use Rattle.sc_base.specs.declared.skip.Skip.{Skip}
use Rattle.sc_base.specs.declared.skip.Skip.TheVariants as skip
use Rattle.sc_base.specs.declared.skip.Unsupported.{Unsupported}
use Rattle.sc_base.specs.declared.skip.Unsupported.TheVariants as unsupported
use Rattle.sc_base.specs.declared.skip.IllTyped.{IllTyped}
use Rattle.sc_base.specs.declared.skip.IllTyped.TheVariants as ill
use Rattle.sc_base.specs.declared.skip.LimitKind.{LimitKind}
use Rattle.sc_base.specs.declared.skip.LimitKind.TheVariants as limit
use Rattle.sc_tree.specs.declared.op.BinaryOp.{BinaryOp}
use Rattle.sc_tree.specs.declared.op.BinaryOp.TheVariants as binary
use Rattle.sc_tree.specs.declared.op.UnaryOp.{UnaryOp}
use Rattle.sc_tree.specs.declared.op.UnaryOp.TheVariants as unary
use Rattle.sc_tree.specs.declared.op.AssignOp.{AssignOp}
use Rattle.sc_tree.specs.declared.op.AssignOp.TheVariants as assign
use Rattle.sc_tree.specs.declared.op.Step.{Step}
use Rattle.sc_tree.specs.declared.op.Step.TheVariants as step
use Rattle.sc_tree.specs.declared.ctype.IntKind.{IntKind}
use Rattle.sc_tree.specs.declared.ctype.IntKind.TheVariants as int
use Rattle.sc_tree.specs.declared.ctype.OpaqueKind.{OpaqueKind}
use Rattle.sc_tree.specs.declared.ctype.OpaqueKind.TheVariants as opaque
use Rattle.sc_tree.specs.declared.ctype.Widths.{Widths}
use Rattle.sc_tree.specs.declared.ctype.Widths.TheVariants as widths
use Rattle.sc_tree.specs.declared.expr.Place.{Place}
use Rattle.sc_typed.specs.declared.stmt.Declared.{Declared}
use Rattle.sc_typed.specs.declared.stmt.Declared.TheVariants as declared
use Rattle.sc_typed.specs.declared.stmt.InitStep.{InitStep}
use Rattle.sc_typed.specs.declared.stmt.InitStep.TheVariants as way

abbrev pub binary_number : BinaryOp → ℕ
binary_number binary.Or = 0
binary_number binary.And = 1
binary_number binary.BitOr = 2
binary_number binary.BitXor = 3
binary_number binary.BitAnd = 4
binary_number binary.Equal = 5
binary_number binary.NotEqual = 6
binary_number binary.Less = 7
binary_number binary.Greater = 8
binary_number binary.LessEqual = 9
binary_number binary.GreaterEqual = 10
binary_number binary.ShiftLeft = 11
binary_number binary.ShiftRight = 12
binary_number binary.Add = 13
binary_number binary.Sub = 14
binary_number binary.Mul = 15
binary_number binary.Div = 16
binary_number binary.Rem = 17

abbrev pub unary_number : UnaryOp → ℕ
unary_number unary.Address = 0
unary_number unary.Deref = 1
unary_number unary.Plus = 2
unary_number unary.Minus = 3
unary_number unary.Complement = 4
unary_number unary.Not = 5

abbrev pub assign_number : AssignOp → ℕ
assign_number assign.Set = 0
assign_number assign.Mul = 1
assign_number assign.Div = 2
assign_number assign.Rem = 3
assign_number assign.Add = 4
assign_number assign.Sub = 5
assign_number assign.ShiftLeft = 6
assign_number assign.ShiftRight = 7
assign_number assign.BitAnd = 8
assign_number assign.BitXor = 9
assign_number assign.BitOr = 10

abbrev pub step_number : Step → ℕ
step_number step.Up = 0
step_number step.Down = 1

abbrev pub int_number : IntKind → ℕ
int_number int.Char = 0
int_number int.SChar = 1
int_number int.UChar = 2
int_number int.Short = 3
int_number int.UShort = 4
int_number int.Int = 5
int_number int.UInt = 6
int_number int.Long = 7
int_number int.ULong = 8
int_number int.LongLong = 9
int_number int.ULongLong = 10

abbrev pub opaque_number : OpaqueKind → ℕ
opaque_number opaque.Float = 0
opaque_number opaque.Double = 1
opaque_number opaque.LongDouble = 2
opaque_number opaque.VaList = 3

abbrev pub widths_number : Widths → ℕ
widths_number widths.Ilp32 = 0
widths_number widths.Lp64 = 1

abbrev pub unsupported_number : Unsupported → ℕ
unsupported_number unsupported.Float = 0
unsupported_number unsupported.Wide = 1
unsupported_number unsupported.VaList = 2
unsupported_number unsupported.Odd = 3
unsupported_number unsupported.Union = 4
unsupported_number unsupported.BitField = 5
unsupported_number unsupported.Anon = 6
unsupported_number unsupported.Arith = 7
unsupported_number unsupported.Order = 8
unsupported_number unsupported.Cast = 9
unsupported_number unsupported.Struct = 10
unsupported_number unsupported.Static = 11
unsupported_number unsupported.Vla = 12
unsupported_number unsupported.Init = 13
unsupported_number unsupported.Goto = 14
unsupported_number unsupported.Variadic = 15
unsupported_number unsupported.Call = 16

abbrev pub ill_number : IllTyped → ℕ
ill_number ill.Name = 0
ill_number ill.Field = 1
ill_number ill.Label = 2
ill_number ill.Operand = 3
ill_number ill.Lvalue = 4
ill_number ill.Call = 5
ill_number ill.Return = 6
ill_number ill.Constant = 7
ill_number ill.Incomplete = 8
ill_number ill.Again = 9

abbrev pub limit_number : LimitKind → ℕ
limit_number limit.Files = 0
limit_number limit.Input = 1
limit_number limit.Functions = 2
limit_number limit.Edges = 3
limit_number limit.Params = 4
limit_number limit.Nodes = 5
limit_number limit.Locations = 6

abbrev pub flag : Bool → ℕ
flag false = 0
flag true = 1

abbrev pub optional : Option ℕ → List ℕ
optional None = []
optional (Some n) = n ∷ []

abbrev pub name_if : Option NameId → List ℕ
name_if None = []
name_if (Some n) = n.at ∷ []

abbrev pub pos : Pos → List ℕ
pos p = p.file ∷ p.line ∷ p.col ∷ []

abbrev pub place : Place → List ℕ
place p = p.token.file ∷ p.token.line ∷ p.token.col ∷ p.first.file ∷ p.first.line ∷ p.first.col ∷ []

abbrev pub declared_numbers : Declared → List ℕ
declared_numbers (declared.Local n) = 0 ∷ n ∷ []
declared_numbers (declared.Global n) = 1 ∷ n ∷ []
declared_numbers declared.Function = 2 ∷ 0 ∷ []

-- the way to a part of an object: two numbers for each step
abbrev pub way_numbers : List InitStep → List ℕ
way_numbers [] = []
way_numbers (way.Field n ∷ steps) = 0 ∷ n ∷ way_numbers steps
way_numbers (way.Elem n ∷ steps) = 1 ∷ n ∷ way_numbers steps

abbrev pub skip_numbers : Skip → List ℕ
skip_numbers (skip.Grammar p) = 0 ∷ 0 ∷ pos p
skip_numbers (skip.Unsupported k p) = 1 ∷ unsupported_number k ∷ pos p
skip_numbers (skip.IllTyped k p) = 2 ∷ ill_number k ∷ pos p
skip_numbers (skip.Limit k n) = 3 ∷ limit_number k ∷ n ∷ []
