-- An easy expression that fits reads no temp, so it fits whatever temps keep.
use Rattle.std.proofs.Common.{◌≡◌, Bool, true, false, not, ◌&&◌, refl}
use Rattle.std.specs.Prelude.{Some, None}
use Rattle.std.proofs.lemmas.Bool.{false≢true}
use Rattle.sc_tree.specs.declared.op.UnaryOp.TheVariants as sign
use Rattle.sc_world.specs.Tree.{Exp, Comma, Assign, Cond, Binary, Cast, Unary, PreInc, PostInc, SizeofExpr, SizeofType, Index, Call, Field, Param, Local, Global, Function, Number, Str, Convert, Temp, TempPlace, type_of}
use Rattle.sc_world.specs.Layout.{Layout}
use Rattle.sc_world.specs.Eval.{Want, Value, Place', is_logical}
use Rattle.run_laws.specs.Fits.{Fits, if_scalar, unless_array}
use Rattle.flow_graph.specs.Expressions.{easy}
use Rattle.flow_types.specs.Kinds.{Kinds, FitsOver}

left_of : (a b : Bool) → (a && b) ≡ true → a ≡ true
left_of true b h = refl
left_of false b h = h

right_of : (a b : Bool) → (a && b) ≡ true → b ≡ true
right_of true b h = h
right_of false b h = absurd (false≢true h)

module _ (p : Layout) (k : Kinds) where
  pub easy_fits : (want : Want) (e : Exp) → easy e ≡ true → Fits p want e → FitsOver k p want e
  easy_fits want (Comma a b t) i h =
      (easy_fits Value a (left_of (easy a) (easy b) i) h.0, easy_fits want b (right_of (easy a) (easy b) i) h.1, h.2)
  easy_fits want (Assign None works a b t) i h = (
    easy_fits Place' a (left_of (easy a) (easy b) i) h.0,
    easy_fits (if_scalar t) b (right_of (easy a) (easy b) i) h.1,
    h.2,
    h.3,
  )
  easy_fits want (Assign (Some o) works a b t) i h = (
    easy_fits Place' a (left_of (easy a) (easy b) i) h.0,
    easy_fits Value b (right_of (easy a) (easy b) i) h.1,
    h.2,
    h.3,
    h.4,
    h.5,
    h.6,
  )
  easy_fits want (Cond a b c t) i h = absurd (false≢true i)
  easy_fits want (Binary o a b t) i h =
      let j = right_of (not (is_logical o)) (easy a && easy b) i in (
        easy_fits Value a (left_of (easy a) (easy b) j) h.0,
        easy_fits Value b (right_of (easy a) (easy b) j) h.1,
        h.2,
        h.3,
        h.4,
        h.5,
      )
  easy_fits want (Cast a t) i h = (easy_fits (unless_array (type_of a)) a i h.0, h.1, h.2)
  easy_fits want (Unary sign.Address a t) i h = (easy_fits Place' a i h.0, h.1, h.2)
  easy_fits want (Unary sign.Deref a t) i h = (easy_fits Value a i h.0, h.1)
  easy_fits want (Unary sign.Not a t) i h = (easy_fits Value a i h.0, h.1, h.2, h.3)
  easy_fits want (Unary sign.Plus a t) i h = (easy_fits Value a i h.0, h.1, h.2, h.3)
  easy_fits want (Unary sign.Minus a t) i h = (easy_fits Value a i h.0, h.1, h.2, h.3)
  easy_fits want (Unary sign.Complement a t) i h = (easy_fits Value a i h.0, h.1, h.2, h.3)
  easy_fits want (PreInc d a t) i h = (easy_fits Place' a i h.0, h.1, h.2, h.3)
  easy_fits want (PostInc d a t) i h = (easy_fits Place' a i h.0, h.1, h.2, h.3)
  easy_fits want (SizeofExpr a n t) i h = h
  easy_fits want (SizeofType n t) i h = h
  easy_fits want (Index a b t) i h = (
    easy_fits (unless_array (type_of a)) a (left_of (easy a) (easy b) i) h.0,
    easy_fits Value b (right_of (easy a) (easy b) i) h.1,
    h.2,
    h.3,
  )
  easy_fits want (Call q f es t) i h = absurd (false≢true i)
  easy_fits want (Field a n true t) i h = (easy_fits Value a i h.0, h.1, h.2)
  easy_fits want (Field a n false t) i h = (easy_fits Place' a i h.0, h.1)
  easy_fits want (Param n t) i h = h
  easy_fits want (Local n t) i h = h
  easy_fits want (Global n t) i h = h
  easy_fits want (Function n b t) i h = h
  easy_fits want (Number n t) i h = h
  easy_fits want (Str q t) i h = h
  easy_fits want (Convert a t) i h = (easy_fits (unless_array (type_of a)) a i h.0, h.1, h.2)
  easy_fits want (Temp n t) i h = absurd (false≢true i)
  easy_fits want (TempPlace n t) i h = absurd (false≢true i)
