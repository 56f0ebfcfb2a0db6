-- The expression of a node that reads kept operands: an expression of the text, whose operands are those that temps keep.
-- Where an operand is an object, what is kept is its place.
use Rattle.std.specs.Prelude.{ℕ, true, false, None, if◌then◌else◌}
use Rattle.sc_world.specs.Tree.{is_array, Exp, Comma, Assign, Cond, Binary, Cast, Unary, PreInc, PostInc, SizeofExpr, SizeofType, Index, Call, Field, Param, Local, Global, Function, Number, Str, Convert, Temp, TempPlace, type_of}
use Rattle.flow_graph.specs.Expressions.{is_scalar}

-- the value of an operand, and its object, in the temp with that number
abbrev pub value : Exp → ℕ → Exp
value a x = Temp x (type_of a)

abbrev pub object : Exp → ℕ → Exp
object a x = TempPlace x (type_of a)

-- of an array its place is kept, of anything else the value
abbrev pub pointed : Exp → ℕ → Exp
pointed a x = if is_array (type_of a) then object a x else value a x

-- the first and the second operand are in x and y; an expression with other operands is as it stands
abbrev pub over : Exp → (x y : ℕ) → Exp
over (Comma a b t) x y = Comma a b t
over (Assign o w a b t) x y = Assign None w (object a x) (if is_scalar t then value b y else object b y) t
over (Cond a b c t) x y = Cond a b c t
over (Binary o a b t) x y = Binary o (value a x) (value b y) t
over (Cast a t) x y = Cast (pointed a x) t
over (Unary o a t) x y = Unary o (value a x) t
over (PreInc s a t) x y = PreInc s (object a x) t
over (PostInc s a t) x y = PostInc s (object a x) t
over (SizeofExpr a n t) x y = SizeofType n t
over (SizeofType n t) x y = SizeofType n t
over (Index a b t) x y = Index (pointed a x) (value b y) t
over (Call p f es t) x y = Call p f es t
over (Field a n true t) x y = Field (value a x) n true t
over (Field a n false t) x y = Field (object a x) n false t
over (Param n t) x y = Param n t
over (Local n t) x y = Local n t
over (Global n t) x y = Global n t
over (Function n b t) x y = Function n b t
over (Number n t) x y = Number n t
over (Str p t) x y = Str p t
over (Convert a t) x y = Convert (pointed a x) t
over (Temp n t) x y = Temp n t
over (TempPlace n t) x y = TempPlace n t
