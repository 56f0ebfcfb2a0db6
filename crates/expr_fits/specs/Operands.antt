-- The operands of an expression: what is wanted of each, what the expression asks of their types, and the expression over
-- other operands in their place.
use Rattle.std.specs.Prelude.{◌≡◌, ℕ, Bool, true, false, None, if◌then◌else◌}
use Rattle.sc_tree.specs.declared.op.UnaryOp.TheVariants as sign
use Rattle.sc_world.specs.Tree.{Ty, is_integer, is_pointer, is_array, target_or_void, Exp, Comma, Assign, Cond, Binary, Cast, Unary, PreInc, PostInc, SizeofExpr, SizeofType, Index, Call, Field, Param, Local, Global, Function, Number, Str, Convert, Temp, TempPlace, type_of}
use Rattle.sc_world.specs.Layout.{Layout}
use Rattle.sc_world.specs.Eval.{Want, Value, Place', is_logical}
use Rattle.run_laws.specs.Fits.{operands_fit, TypesMeet, converts_to, is_scalar, unless_array, if_scalar, IsRead, Indexed, MemberFits}
use Rattle.expr_fits.specs.Here.{operand_wanted, object_wanted}
use Rattle.expr_fits.specs.declared.operands.Arity.{Arity}
use Rattle.expr_fits.specs.declared.operands.Arity.TheVariants as arity

-- How many operands an expression has that are evaluated, both always, before its operator acts. A comma, a condition and a
-- call are not made so.
abbrev pub arity_of : Exp → Arity
arity_of (Assign o w a b t) = arity.Binary
arity_of (Binary o a b t) = arity.Binary
arity_of (Cast a t) = arity.Unary
arity_of (Unary o a t) = arity.Unary
arity_of (PreInc d a t) = arity.Unary
arity_of (PostInc d a t) = arity.Unary
arity_of (Index a b t) = arity.Binary
arity_of (Field a n arrow t) = arity.Unary
arity_of (Convert a t) = arity.Unary
arity_of _ = arity.Nullary

abbrev pub has_operands : Arity → Bool
has_operands arity.Nullary = false
has_operands _ = true

abbrev pub first_operand : Exp → Exp
first_operand (Assign o w a b t) = a
first_operand (Binary o a b t) = a
first_operand (Cast a t) = a
first_operand (Unary o a t) = a
first_operand (PreInc d a t) = a
first_operand (PostInc d a t) = a
first_operand (Index a b t) = a
first_operand (Field a n arrow t) = a
first_operand (Convert a t) = a
first_operand e = e

abbrev pub second_operand : Exp → Exp
second_operand (Assign o w a b t) = b
second_operand (Binary o a b t) = b
second_operand (Index a b t) = b
second_operand e = e

-- What is wanted of them.
abbrev pub first_wanted : Exp → Want
first_wanted (Assign o w a b t) = Place'
first_wanted (Cast a t) = unless_array (type_of a)
first_wanted (Unary o a t) = operand_wanted o
first_wanted (PreInc d a t) = Place'
first_wanted (PostInc d a t) = Place'
first_wanted (Index a b t) = unless_array (type_of a)
first_wanted (Field a n arrow t) = object_wanted arrow
first_wanted (Convert a t) = unless_array (type_of a)
first_wanted _ = Value

abbrev pub second_wanted : Exp → Want
second_wanted (Assign o w a b t) = if_scalar t
second_wanted _ = Value

-- The expression over other operands; an assignment is a plain one.
abbrev pub with_operands : Exp → (first second : Exp) → Exp
with_operands (Assign o w a b t) x y = Assign None w x y t
with_operands (Binary o a b t) x y = Binary o x y t
with_operands (Cast a t) x y = Cast x t
with_operands (Unary o a t) x y = Unary o x t
with_operands (PreInc d a t) x y = PreInc d x t
with_operands (PostInc d a t) x y = PostInc d x t
with_operands (Index a b t) x y = Index x y t
with_operands (Field a n arrow t) x y = Field x n arrow t
with_operands (Convert a t) x y = Convert x t
with_operands e x y = e

-- What an operator asks of the types of its operands, and of the layout. `&&` and `||` are branches, and no operator here.
abbrev pub Applies : Layout → Want → Exp → Type 0
Applies p want (Assign o w a b t) = (type_of a ≡ t) × (type_of b ≡ t)
Applies p want (Binary o a b t) =
    (is_logical o ≡ false) × IsRead want × (is_integer t ≡ true) × (operands_fit o (type_of a) (type_of b) ≡ true)
    × TypesMeet o (type_of a) (type_of b) t
Applies p want (Cast a t) = IsRead want × (converts_to (type_of a) t ≡ true)
Applies p want (Unary sign.Address a t) = IsRead want × (is_pointer t ≡ true)
Applies p want (Unary sign.Deref a t) = is_pointer (type_of a) ≡ true
Applies p want (Unary sign.Not a t) = IsRead want × (is_scalar (type_of a) ≡ true) × (is_integer t ≡ true)
Applies p want (Unary o a t) = IsRead want × (type_of a ≡ t) × (is_integer t ≡ true)
Applies p want (PreInc d a t) = IsRead want × (type_of a ≡ t) × (is_integer t ≡ true)
Applies p want (PostInc d a t) = IsRead want × (type_of a ≡ t) × (is_integer t ≡ true)
Applies p want (Index a b t) = (is_integer (type_of b) ≡ true) × Indexed p (is_array (type_of a)) (type_of a) t
Applies p want (Field a n true t) = (is_pointer (type_of a) ≡ true) × MemberFits p (target_or_void (type_of a)) n t
Applies p want (Field a n false t) = MemberFits p (type_of a) n t
Applies p want (Convert a t) = IsRead want × (converts_to (type_of a) t ≡ true)
Applies p want _ = ⊥
