-- What an expression is besides an operator behind its operands.
use Rattle.std.specs.Prelude.{ℕ, Bool, true, false, Option, Some, None}
use Rattle.sc_world.specs.Tree.{Exp, Comma, Assign, Cond, SizeofExpr, Call}
use Rattle.expr_fits.specs.declared.operands.Arity.{Arity}
use Rattle.expr_fits.specs.declared.operands.Arity.TheVariants as arity
use Rattle.expr_fits.specs.Operands.{arity_of}

-- `+=` and its kin, which read the object before the right side is walked
abbrev pub updates : Exp → Bool
updates (Assign (Some o) w a b t) = true
updates _ = false

-- the number that `sizeof` gives of an expression, which is not walked
abbrev pub size_of : Exp → Option ℕ
size_of (SizeofExpr a n t) = Some n
size_of _ = None

abbrev pub is_nullary : Arity → Bool
is_nullary arity.Nullary = true
is_nullary _ = false

-- a name, a constant, a size or a temp
abbrev pub is_leaf : Exp → Bool
is_leaf (Comma a b t) = false
is_leaf (Cond a b c t) = false
is_leaf (Call p f es t) = false
is_leaf e = is_nullary (arity_of e)
