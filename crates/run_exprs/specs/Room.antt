-- How much room an expression needs: each call in it may add two events to the trace, of the call and of an error in
-- it, and keeps the values of its arguments until it is made. One number counts both.
use Rattle.std.specs.Prelude.{ℕ, ◌+◌}
use Rattle.sc_world.specs.Tree.{Exp, Comma, Assign, Cond, Binary, Cast, Unary, PreInc, PostInc, SizeofExpr, SizeofType, Index, Call, Field, Param, Local, Global, Function, Number, Str, Convert, Temp, TempPlace, Exps, NoExps, Exps'}

abbrev mutual
  pub room : Exp → ℕ
  room (Comma a b t) = room a + room b
  room (Assign o works a b t) = room a + room b
  room (Cond a b c t) = room a + (room b + room c)
  room (Binary o a b t) = room a + room b
  room (Cast a t) = room a
  room (Unary o a t) = room a
  room (PreInc s a t) = room a
  room (PostInc s a t) = room a
  room (SizeofExpr a n t) = 0
  room (SizeofType n t) = 0
  room (Index a b t) = room a + room b
  room (Call p f es t) = room f + (room_all es + 2)
  room (Field a n arrow t) = room a
  room (Param n t) = 0
  room (Local n t) = 0
  room (Global n t) = 0
  room (Function n b t) = 0
  room (Number n t) = 0
  room (Str p t) = 0
  room (Convert a t) = room a
  room (Temp n t) = 0
  room (TempPlace n t) = 0

  pub room_all : Exps → ℕ
  room_all NoExps = 0
  room_all (Exps' e es) = room e + (room_all es + 1)
