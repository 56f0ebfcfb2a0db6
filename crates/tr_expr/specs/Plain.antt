-- Which types the operands of a construct have, so that each value fits the width of its type.
use Rattle.std.specs.Prelude.{◌≡◌, Bool, true, false, ◌&&◌, ◌||◌}
use Rattle.gate_values.specs.Operators.{is_shift, is_test}
use Rattle.sc_tree.specs.declared.op.BinaryOp.{BinaryOp}
use Rattle.sc_tree.specs.declared.op.UnaryOp.{UnaryOp}
use Rattle.sc_tree.specs.declared.op.UnaryOp.TheVariants as sign
use Rattle.sc_world.specs.Tree.{Ty, is_integer, is_pointer, is_bool, int_bits}
use Rattle.sc_world.specs.Source.{Source}
use Rattle.sc_world.specs.Eval.{is_logical}

abbrev pub is_scalar : Ty → Bool
is_scalar t = is_integer t || is_pointer t

-- an integer becomes an integer or a pointer, a pointer a pointer or a `_Bool`
abbrev pub converts : (from to : Ty) → Bool
converts u t = (is_integer u && is_scalar t) || (is_pointer u && (is_pointer t || is_bool t))

pub record ConvertFits (from to : Ty) : Type 0 where
  pub holds : converts from to ≡ true

-- the operand of `+`, `-` and `~` has the width of the whole
pub record SignFits (s : Source) (operand whole : Ty) : Type 0 where
  pub takes : is_integer operand ≡ true
  pub gives : is_integer whole ≡ true
  pub same : int_bits s.widths operand ≡ int_bits s.widths whole

pub record NotFits (whole : Ty) : Type 0 where
  pub gives : is_integer whole ≡ true

abbrev pub UnaryFits : Source → UnaryOp → (operand whole : Ty) → Type 0
UnaryFits s sign.Plus u t = SignFits s u t
UnaryFits s sign.Minus u t = SignFits s u t
UnaryFits s sign.Complement u t = SignFits s u t
UnaryFits s sign.Not u t = NotFits t
UnaryFits s sign.Address u t = ⊥
UnaryFits s sign.Deref u t = ⊥

-- two integers, or two pointers
pub data AreAlike (left right : Ty) : Type 0 where
  Integers : is_integer left ≡ true → is_integer right ≡ true → AreAlike left right
  PointersBoth : is_pointer left ≡ true → is_pointer right ≡ true → AreAlike left right

-- Two integers of one width, but for the count of a shift, or two pointers. The result has the width of the operands,
-- but where it is the truth of a test.
pub record BinaryFits (s : Source) (o : BinaryOp) (left right whole : Ty) : Type 0 where
  pub plain : is_logical o ≡ false
  pub gives : is_integer whole ≡ true
  pub alike : AreAlike left right
  pub same : is_shift o ≡ false → int_bits s.widths left ≡ int_bits s.widths right
  pub keeps : is_test o ≡ false → int_bits s.widths whole ≡ int_bits s.widths left
