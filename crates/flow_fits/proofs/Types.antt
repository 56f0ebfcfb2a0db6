-- Types of the expressions of nodes.
use Rattle.std.proofs.Common.{◌≡◌, ℕ, true, false, refl}
use Rattle.sc_world.specs.Tree.{Ty, Void, Bool', Int, Ptr, Array, Struct, Union, Func, Opaque, is_void, Exp, Comma, Assign, Cond, Binary, Cast, Unary, PreInc, PostInc, SizeofExpr, SizeofType, Index, Call, Field, Param, Local, Global, Function, Number, Str, Convert, Temp, TempPlace, type_of}
use Rattle.flow_graph.specs.Expressions.{as_scalar}
use Rattle.sc_flow.specs.Over.{over}

-- an expression over kept operands has its type
pub over_type : (e : Exp) (x y : ℕ) → type_of (over e x y) ≡ type_of e
over_type (Comma a b t) x y = refl
over_type (Assign o w a b t) x y = refl
over_type (Cond a b c t) x y = refl
over_type (Binary o a b t) x y = refl
over_type (Cast a t) x y = refl
over_type (Unary o a t) x y = refl
over_type (PreInc d a t) x y = refl
over_type (PostInc d a t) x y = refl
over_type (SizeofExpr a n t) x y = refl
over_type (SizeofType n t) x y = refl
over_type (Index a b t) x y = refl
over_type (Call p f es t) x y = refl
over_type (Field a n true t) x y = refl
over_type (Field a n false t) x y = refl
over_type (Param n t) x y = refl
over_type (Local n t) x y = refl
over_type (Global n t) x y = refl
over_type (Function n b t) x y = refl
over_type (Number n t) x y = refl
over_type (Str p t) x y = refl
over_type (Convert a t) x y = refl
over_type (Temp n t) x y = refl
over_type (TempPlace n t) x y = refl

-- what stands in one cell is not of type `void`
pub scalar_is_something : (t : Ty) → is_void (as_scalar t) ≡ false
scalar_is_something Void = refl
scalar_is_something Bool' = refl
scalar_is_something (Int k) = refl
scalar_is_something (Ptr t) = refl
scalar_is_something (Array t n) = refl
scalar_is_something (Struct n) = refl
scalar_is_something (Union n) = refl
scalar_is_something (Func t known ts variadic) = refl
scalar_is_something (Opaque k) = refl
