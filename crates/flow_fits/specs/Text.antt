-- The temps that an expression names, each tested.
use Rattle.std.specs.Prelude.{ℕ, Bool, true, ◌&&◌}
use Rattle.sc_world.specs.Tree.{Exp, Comma, Assign, Cond, Binary, Cast, Unary, PreInc, PostInc, SizeofExpr, SizeofType, Index, Call, Field, Param, Local, Global, Function, Number, Str, Convert, Temp, TempPlace, Exps, NoExps, Exps'}

-- each temp that an expression names passes
abbrev mutual
  pub each_named : (ℕ → Bool) → Exp → Bool
  each_named test (Comma a b t) = each_named test a && each_named test b
  each_named test (Assign o w a b t) = each_named test a && each_named test b
  each_named test (Cond a b c t) = each_named test a && (each_named test b && each_named test c)
  each_named test (Binary o a b t) = each_named test a && each_named test b
  each_named test (Cast a t) = each_named test a
  each_named test (Unary o a t) = each_named test a
  each_named test (PreInc d a t) = each_named test a
  each_named test (PostInc d a t) = each_named test a
  each_named test (SizeofExpr a n t) = each_named test a
  each_named test (SizeofType n t) = true
  each_named test (Index a b t) = each_named test a && each_named test b
  each_named test (Call p f es t) = each_named test f && all_named test es
  each_named test (Field a n arrow t) = each_named test a
  each_named test (Param n t) = true
  each_named test (Local n t) = true
  each_named test (Global n t) = true
  each_named test (Function n b t) = true
  each_named test (Number n t) = true
  each_named test (Str p t) = true
  each_named test (Convert a t) = each_named test a
  each_named test (Temp n t) = test n
  each_named test (TempPlace n t) = test n

  pub all_named : (ℕ → Bool) → Exps → Bool
  all_named test NoExps = true
  all_named test (Exps' e es) = each_named test e && all_named test es

-- the same of an expression whose operands are kept in the temps x and y
abbrev pub each_over : (ℕ → Bool) → Exp → (x y : ℕ) → Bool
each_over test (Comma a b t) x y = each_named test (Comma a b t)
each_over test (Assign o w a b t) x y = test x && test y
each_over test (Cond a b c t) x y = each_named test (Cond a b c t)
each_over test (Binary o a b t) x y = test x && test y
each_over test (Cast a t) x y = test x
each_over test (Unary o a t) x y = test x
each_over test (PreInc d a t) x y = test x
each_over test (PostInc d a t) x y = test x
each_over test (SizeofExpr a n t) x y = true
each_over test (SizeofType n t) x y = true
each_over test (Index a b t) x y = test x && test y
each_over test (Call p f es t) x y = each_named test (Call p f es t)
each_over test (Field a n arrow t) x y = test x
each_over test (Param n t) x y = true
each_over test (Local n t) x y = true
each_over test (Global n t) x y = true
each_over test (Function n b t) x y = true
each_over test (Number n t) x y = true
each_over test (Str p t) x y = true
each_over test (Convert a t) x y = test x
each_over test (Temp n t) x y = test n
each_over test (TempPlace n t) x y = test n
