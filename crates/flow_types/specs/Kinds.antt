-- What the temps and the slots of a graph keep, and expressions over temps that fit a layout.
use Rattle.std.specs.Prelude.{◌≡◌, ℕ, Bool, true, false, ◌⊎◌, Some, None, List, slice_get}
use Rattle.sc_tree.specs.declared.op.UnaryOp.TheVariants as sign
use Rattle.sc_world.specs.declared.run.Origin.TheVariants as origin
use Rattle.sc_world.specs.Tree.{Ty, is_integer, is_pointer, is_array, target_or_void, Exp, Comma, Assign, Cond, Binary, Cast, Unary, PreInc, PostInc, SizeofExpr, SizeofType, Index, Call, Field, Param, Local, Global, Function, Number, Str, Convert, Temp, TempPlace, type_of}
use Rattle.sc_world.specs.Layout.{Layout}
use Rattle.sc_world.specs.Eval.{Want, Value, Place'}
use Rattle.run_laws.specs.Fits.{operands_fit, TypesMeet, converts_to, is_scalar, unless_array, if_scalar, IsRead, IsTypedThere, IsStubThere, Indexed, MemberFits}

-- a value of a type, or the place of an object of a type
pub data Kind : Type 0 where
  ValueOf : Ty → Kind
  PlaceOf : Ty → Kind

-- what each temp keeps, and for each slot the type of the value whose cells it keeps
pub record Kinds : Type 0 where
  pub temps : List Kind
  pub slots : List Ty

module _ (k : Kinds) where
  abbrev pub IsKept : ℕ → Kind → Type 0
  IsKept n x = slice_get k.temps n ≡ Some x

  -- a temp keeps a value, of a type of that sort
  abbrev pub KeepsSome : (Ty → Bool) → ℕ → Type 0
  KeepsSome sort n = (t : Ty) × IsKept n (ValueOf t) × (sort t ≡ true)

  -- A temp is for what an expression of that type gives. The operand of `&` gives its place to a temp that keeps the
  -- pointer which `&` makes of it.
  abbrev pub IsFor : Want → Ty → ℕ → Type 0
  IsFor Value t n = IsKept n (ValueOf t)
  IsFor Place' t n = IsKept n (PlaceOf t) ⊎ KeepsSome is_pointer n

  module _ (p : Layout) where
    -- An expression of a node fits the layout, where its value or its place is wanted, as one of the text does, and each
    -- temp that it reads keeps a value, or a place, of the type that stands there. It has no call and no `? :`.
    abbrev pub FitsOver : Want → Exp → Type 0
    FitsOver want (Comma a b t) = FitsOver Value a × FitsOver want b × (type_of b ≡ t)
    FitsOver want (Assign None works a b t) =
        FitsOver Place' a × FitsOver (if_scalar t) b × (type_of a ≡ t) × (type_of b ≡ t)
    FitsOver want (Assign (Some o) works a b t) =
        FitsOver Place' a × FitsOver Value b × (type_of a ≡ t) × (is_integer t ≡ true) × (is_integer works ≡ true)
        × (is_integer (type_of b) ≡ true) × TypesMeet o works (type_of b) works
    FitsOver want (Cond a b c t) = ⊥
    FitsOver want (Binary o a b t) =
        FitsOver Value a × FitsOver Value b × IsRead want × (is_integer t ≡ true)
        × (operands_fit o (type_of a) (type_of b) ≡ true) × TypesMeet o (type_of a) (type_of b) t
    FitsOver want (Cast a t) = FitsOver (unless_array (type_of a)) a × IsRead want × (converts_to (type_of a) t ≡ true)
    FitsOver want (Unary sign.Address a t) = FitsOver Place' a × IsRead want × (is_pointer t ≡ true)
    FitsOver want (Unary sign.Deref a t) = FitsOver Value a × (is_pointer (type_of a) ≡ true)
    FitsOver want (Unary sign.Not a t) =
        FitsOver Value a × IsRead want × (is_scalar (type_of a) ≡ true) × (is_integer t ≡ true)
    FitsOver want (Unary o a t) = FitsOver Value a × IsRead want × (type_of a ≡ t) × (is_integer t ≡ true)
    FitsOver want (PreInc d a t) = FitsOver Place' a × IsRead want × (type_of a ≡ t) × (is_integer t ≡ true)
    FitsOver want (PostInc d a t) = FitsOver Place' a × IsRead want × (type_of a ≡ t) × (is_integer t ≡ true)
    FitsOver want (SizeofExpr a n t) = IsRead want × (is_integer t ≡ true)
    FitsOver want (SizeofType n t) = IsRead want × (is_integer t ≡ true)
    FitsOver want (Index a b t) =
        FitsOver (unless_array (type_of a)) a × FitsOver Value b × (is_integer (type_of b) ≡ true)
        × Indexed p (is_array (type_of a)) (type_of a) t
    FitsOver want (Call x f es t) = ⊥
    FitsOver want (Field a n true t) =
        FitsOver Value a × (is_pointer (type_of a) ≡ true) × MemberFits p (target_or_void (type_of a)) n t
    FitsOver want (Field a n false t) = FitsOver Place' a × MemberFits p (type_of a) n t
    FitsOver want (Param n t) = IsTypedThere p (origin.Param n) t
    FitsOver want (Local n t) = IsTypedThere p (origin.Local n) t
    FitsOver want (Global n t) = IsTypedThere p (origin.Global n) t
    FitsOver want (Function n b t) = IsStubThere p (origin.Function n) t
    FitsOver want (Number n t) = IsRead want × (is_integer t ≡ true)
    FitsOver want (Str x t) = IsStubThere p (origin.Literal x.token) t
    FitsOver want (Convert a t) =
        FitsOver (unless_array (type_of a)) a × IsRead want × (converts_to (type_of a) t ≡ true)
    FitsOver want (Temp n t) = IsRead want × IsKept n (ValueOf t)
    FitsOver want (TempPlace n t) = IsKept n (PlaceOf t)
