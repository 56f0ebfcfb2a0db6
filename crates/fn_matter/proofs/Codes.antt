-- What has no parts, back from its numbers.
use Rattle.std.proofs.Common.{◌≡◌, ℕ, List, [], ◌∷◌, refl, ap}
use Rattle.std.specs.Prelude.{Bool, true, false, Option, Some, None, slice_index_or, ℤ, pos as positive, negsuc}
use Rattle.sc_base.specs.declared.pos.Pos.{Pos}
use Rattle.sc_base.specs.declared.skip.Skip.{Skip}
use Rattle.sc_base.specs.declared.skip.Skip.TheVariants as skip
use Rattle.sc_base.specs.declared.skip.Unsupported.{Unsupported}
use Rattle.sc_base.specs.declared.skip.Unsupported.TheVariants as unsupported
use Rattle.sc_base.specs.declared.skip.IllTyped.{IllTyped}
use Rattle.sc_base.specs.declared.skip.IllTyped.TheVariants as ill
use Rattle.sc_base.specs.declared.skip.LimitKind.{LimitKind}
use Rattle.sc_base.specs.declared.skip.LimitKind.TheVariants as limit
use Rattle.sc_tree.specs.declared.op.BinaryOp.{BinaryOp}
use Rattle.sc_tree.specs.declared.op.BinaryOp.TheVariants as binary
use Rattle.sc_tree.specs.declared.op.UnaryOp.{UnaryOp}
use Rattle.sc_tree.specs.declared.op.UnaryOp.TheVariants as unary
use Rattle.sc_tree.specs.declared.op.AssignOp.{AssignOp}
use Rattle.sc_tree.specs.declared.op.AssignOp.TheVariants as assign
use Rattle.sc_tree.specs.declared.op.Step.{Step}
use Rattle.sc_tree.specs.declared.op.Step.TheVariants as step
use Rattle.sc_tree.specs.declared.ctype.IntKind.{IntKind}
use Rattle.sc_tree.specs.declared.ctype.IntKind.TheVariants as int
use Rattle.sc_tree.specs.declared.ctype.OpaqueKind.{OpaqueKind}
use Rattle.sc_tree.specs.declared.ctype.OpaqueKind.TheVariants as opaque
use Rattle.sc_tree.specs.declared.ctype.Widths.{Widths}
use Rattle.sc_tree.specs.declared.ctype.Widths.TheVariants as widths
use Rattle.sc_tree.specs.declared.expr.Place.{Place}
use Rattle.sc_typed.specs.declared.stmt.Declared.{Declared}
use Rattle.sc_typed.specs.declared.stmt.Declared.TheVariants as declared
use Rattle.sc_typed.specs.declared.stmt.InitStep.{InitStep}
use Rattle.sc_typed.specs.declared.stmt.InitStep.TheVariants as way
use Rattle.fn_matter.specs.Numbers.{binary_number, unary_number, assign_number, step_number, int_number, opaque_number, widths_number, unsupported_number, ill_number, limit_number, flag, optional, declared_numbers, way_numbers, skip_numbers}
use Rattle.fn_matter.specs.Shapes.{signed}

-- the number at a place of a list
abbrev pub nth : List ℕ → ℕ → ℕ
nth ns k = slice_index_or ns k 0

abbrev pub binary_back : ℕ → BinaryOp
binary_back n = slice_index_or (binary.Or ∷ binary.And ∷ binary.BitOr ∷ binary.BitXor ∷ binary.BitAnd ∷ binary.Equal ∷ binary.NotEqual ∷ binary.Less ∷ binary.Greater ∷ binary.LessEqual ∷ binary.GreaterEqual ∷ binary.ShiftLeft ∷ binary.ShiftRight ∷ binary.Add ∷ binary.Sub ∷ binary.Mul ∷ binary.Div ∷ binary.Rem ∷ []) n binary.Or

pub binary_same : (x : BinaryOp) → binary_back (binary_number x) ≡ x
binary_same binary.Or = refl
binary_same binary.And = refl
binary_same binary.BitOr = refl
binary_same binary.BitXor = refl
binary_same binary.BitAnd = refl
binary_same binary.Equal = refl
binary_same binary.NotEqual = refl
binary_same binary.Less = refl
binary_same binary.Greater = refl
binary_same binary.LessEqual = refl
binary_same binary.GreaterEqual = refl
binary_same binary.ShiftLeft = refl
binary_same binary.ShiftRight = refl
binary_same binary.Add = refl
binary_same binary.Sub = refl
binary_same binary.Mul = refl
binary_same binary.Div = refl
binary_same binary.Rem = refl

abbrev pub unary_back : ℕ → UnaryOp
unary_back n = slice_index_or (unary.Address ∷ unary.Deref ∷ unary.Plus ∷ unary.Minus ∷ unary.Complement ∷ unary.Not ∷ []) n unary.Address

pub unary_same : (x : UnaryOp) → unary_back (unary_number x) ≡ x
unary_same unary.Address = refl
unary_same unary.Deref = refl
unary_same unary.Plus = refl
unary_same unary.Minus = refl
unary_same unary.Complement = refl
unary_same unary.Not = refl

abbrev pub assign_back : ℕ → AssignOp
assign_back n = slice_index_or (assign.Set ∷ assign.Mul ∷ assign.Div ∷ assign.Rem ∷ assign.Add ∷ assign.Sub ∷ assign.ShiftLeft ∷ assign.ShiftRight ∷ assign.BitAnd ∷ assign.BitXor ∷ assign.BitOr ∷ []) n assign.Set

pub assign_same : (x : AssignOp) → assign_back (assign_number x) ≡ x
assign_same assign.Set = refl
assign_same assign.Mul = refl
assign_same assign.Div = refl
assign_same assign.Rem = refl
assign_same assign.Add = refl
assign_same assign.Sub = refl
assign_same assign.ShiftLeft = refl
assign_same assign.ShiftRight = refl
assign_same assign.BitAnd = refl
assign_same assign.BitXor = refl
assign_same assign.BitOr = refl

abbrev pub step_back : ℕ → Step
step_back n = slice_index_or (step.Up ∷ step.Down ∷ []) n step.Up

pub step_same : (x : Step) → step_back (step_number x) ≡ x
step_same step.Up = refl
step_same step.Down = refl

abbrev pub int_back : ℕ → IntKind
int_back n = slice_index_or (int.Char ∷ int.SChar ∷ int.UChar ∷ int.Short ∷ int.UShort ∷ int.Int ∷ int.UInt ∷ int.Long ∷ int.ULong ∷ int.LongLong ∷ int.ULongLong ∷ []) n int.Char

pub int_same : (x : IntKind) → int_back (int_number x) ≡ x
int_same int.Char = refl
int_same int.SChar = refl
int_same int.UChar = refl
int_same int.Short = refl
int_same int.UShort = refl
int_same int.Int = refl
int_same int.UInt = refl
int_same int.Long = refl
int_same int.ULong = refl
int_same int.LongLong = refl
int_same int.ULongLong = refl

abbrev pub opaque_back : ℕ → OpaqueKind
opaque_back n = slice_index_or (opaque.Float ∷ opaque.Double ∷ opaque.LongDouble ∷ opaque.VaList ∷ []) n opaque.Float

pub opaque_same : (x : OpaqueKind) → opaque_back (opaque_number x) ≡ x
opaque_same opaque.Float = refl
opaque_same opaque.Double = refl
opaque_same opaque.LongDouble = refl
opaque_same opaque.VaList = refl

abbrev pub widths_back : ℕ → Widths
widths_back n = slice_index_or (widths.Ilp32 ∷ widths.Lp64 ∷ []) n widths.Ilp32

pub widths_same : (x : Widths) → widths_back (widths_number x) ≡ x
widths_same widths.Ilp32 = refl
widths_same widths.Lp64 = refl

abbrev pub unsupported_back : ℕ → Unsupported
unsupported_back n = slice_index_or (unsupported.Float ∷ unsupported.Wide ∷ unsupported.VaList ∷ unsupported.Odd ∷ unsupported.Union ∷ unsupported.BitField ∷ unsupported.Anon ∷ unsupported.Arith ∷ unsupported.Order ∷ unsupported.Cast ∷ unsupported.Struct ∷ unsupported.Static ∷ unsupported.Vla ∷ unsupported.Init ∷ unsupported.Goto ∷ unsupported.Variadic ∷ unsupported.Call ∷ []) n unsupported.Float

pub unsupported_same : (x : Unsupported) → unsupported_back (unsupported_number x) ≡ x
unsupported_same unsupported.Float = refl
unsupported_same unsupported.Wide = refl
unsupported_same unsupported.VaList = refl
unsupported_same unsupported.Odd = refl
unsupported_same unsupported.Union = refl
unsupported_same unsupported.BitField = refl
unsupported_same unsupported.Anon = refl
unsupported_same unsupported.Arith = refl
unsupported_same unsupported.Order = refl
unsupported_same unsupported.Cast = refl
unsupported_same unsupported.Struct = refl
unsupported_same unsupported.Static = refl
unsupported_same unsupported.Vla = refl
unsupported_same unsupported.Init = refl
unsupported_same unsupported.Goto = refl
unsupported_same unsupported.Variadic = refl
unsupported_same unsupported.Call = refl

abbrev pub ill_back : ℕ → IllTyped
ill_back n = slice_index_or (ill.Name ∷ ill.Field ∷ ill.Label ∷ ill.Operand ∷ ill.Lvalue ∷ ill.Call ∷ ill.Return ∷ ill.Constant ∷ ill.Incomplete ∷ ill.Again ∷ []) n ill.Name

pub ill_same : (x : IllTyped) → ill_back (ill_number x) ≡ x
ill_same ill.Name = refl
ill_same ill.Field = refl
ill_same ill.Label = refl
ill_same ill.Operand = refl
ill_same ill.Lvalue = refl
ill_same ill.Call = refl
ill_same ill.Return = refl
ill_same ill.Constant = refl
ill_same ill.Incomplete = refl
ill_same ill.Again = refl

abbrev pub limit_back : ℕ → LimitKind
limit_back n = slice_index_or (limit.Files ∷ limit.Input ∷ limit.Functions ∷ limit.Edges ∷ limit.Params ∷ limit.Nodes ∷ limit.Locations ∷ []) n limit.Files

pub limit_same : (x : LimitKind) → limit_back (limit_number x) ≡ x
limit_same limit.Files = refl
limit_same limit.Input = refl
limit_same limit.Functions = refl
limit_same limit.Edges = refl
limit_same limit.Params = refl
limit_same limit.Nodes = refl
limit_same limit.Locations = refl

abbrev pub flag_back : ℕ → Bool
flag_back n = slice_index_or (false ∷ true ∷ []) n false

pub flag_same : (b : Bool) → flag_back (flag b) ≡ b
flag_same false = refl
flag_same true = refl

abbrev pub optional_back : List ℕ → Option ℕ
optional_back [] = None
optional_back (n ∷ ns) = Some n

pub optional_same : (o : Option ℕ) → optional_back (optional o) ≡ o
optional_same None = refl
optional_same (Some n) = refl

abbrev pub signed_by : ℕ → ℕ → ℤ
signed_by s n = slice_index_or (positive n ∷ negsuc n ∷ []) s (positive 0)

pub signed_same : (z : ℤ) → signed_by (nth (signed z) 0) (nth (signed z) 1) ≡ z
signed_same (positive n) = refl
signed_same (negsuc n) = refl

-- a place from the number at that place on
abbrev pub pos_back : List ℕ → ℕ → ℕ → ℕ → Pos
pos_back ns a b c = record { file = nth ns a; line = nth ns b; col = nth ns c }

abbrev pub place_back : List ℕ → Place
place_back ns = record { token = pos_back ns 0 1 2; first = pos_back ns 3 4 5 }

abbrev pub tail : List ℕ → List ℕ
tail [] = []
tail (n ∷ ns) = ns

abbrev pub declared_back : ℕ → ℕ → Declared
declared_back k n = slice_index_or (declared.Local n ∷ declared.Global n ∷ declared.Function ∷ []) k declared.Function

pub declared_same : (d : Declared) → declared_back (nth (declared_numbers d) 0) (nth (declared_numbers d) 1) ≡ d
declared_same (declared.Local n) = refl
declared_same (declared.Global n) = refl
declared_same declared.Function = refl

abbrev pub step_of_way : ℕ → ℕ → InitStep
step_of_way k n = slice_index_or (way.Field n ∷ way.Elem n ∷ []) k (way.Field 0)

abbrev pub way_back : List ℕ → List InitStep
way_back [] = []
way_back (k ∷ []) = []
way_back (k ∷ n ∷ ns) = step_of_way k n ∷ way_back ns

pub way_same : (steps : List InitStep) → way_back (way_numbers steps) ≡ steps
way_same [] = refl
way_same (way.Field n ∷ steps) = λ i. way.Field n ∷ way_same steps i
way_same (way.Elem n ∷ steps) = λ i. way.Elem n ∷ way_same steps i

-- why a body is skipped, by the number of its variant, then its kind and its place or its count
abbrev pub skip_back : List ℕ → Skip
skip_back ns =
    slice_index_or
    (skip.Grammar (pos_back ns 2 3 4) ∷ skip.Unsupported (unsupported_back (nth ns 1)) (pos_back ns 2 3 4)
    ∷ skip.IllTyped (ill_back (nth ns 1)) (pos_back ns 2 3 4) ∷ skip.Limit (limit_back (nth ns 1)) (nth ns 2) ∷ [])
    (nth ns 0) (skip.Grammar (pos_back ns 2 3 4))

pub skip_same : (s : Skip) → skip_back (skip_numbers s) ≡ s
skip_same (skip.Grammar p) = refl
skip_same (skip.Unsupported k p) = ap (λ v. skip.Unsupported v p) (unsupported_same k)
skip_same (skip.IllTyped k p) = ap (λ v. skip.IllTyped v p) (ill_same k)
skip_same (skip.Limit k n) = ap (λ v. skip.Limit v n) (limit_same k)
