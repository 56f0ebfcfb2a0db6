-- Expressions as typing makes them (C11 6.5): the operands of each operator have the types that it wants, and what an
-- expression names has its type where it is declared. No layout is asked.
use Rattle.std.specs.Prelude.{◌≡◌, ℕ, Bool, true, false, Option, Some, None, List, slice_get}
use Rattle.sc_base.specs.declared.pos.NameId.{NameId}
use Rattle.sc_tree.specs.declared.op.UnaryOp.TheVariants as sign
use Rattle.sc_world.specs.Tree.{Ty, Array, Struct, is_integer, is_pointer, is_array, target_or_void, Exp, Comma, Assign, Cond, Binary, Cast, Unary, PreInc, PostInc, SizeofExpr, SizeofType, Index, Call, Field, Param, Local, Global, Function, Number, Str, Convert, Temp, TempPlace, Exps, NoExps, Exps', type_of}
use Rattle.sc_world.specs.Source.{Source, Member, effect}
use Rattle.sc_world.specs.Gather.{Site}
use Rattle.sc_world.specs.Layout.{same_pos}
use Rattle.sc_world.specs.Objects.{members_of}
use Rattle.sc_world.specs.Eval.{Want, Value, Place', is_name}
use Rattle.run_laws.specs.Fits.{may_be_stub, is_scalar, operands_fit, TypesMeet, converts_to, unless_array, if_scalar, IsRead, Unless, CallFits}
use Rattle.layout_laws.specs.Origins.{IsAmong}

-- a function's name, also behind conversions
abbrev pub names_function : Exp → Bool
names_function (Function n b t) = true
names_function (Convert a t) = names_function a
names_function _ = false

-- an opening bracket tells its call from all others
abbrev pub BracketsTell : List Site → Type 0
BracketsTell xs = (x y : Site) → IsAmong x xs → IsAmong y xs → same_pos x.bracket y.bracket ≡ true → x.effect ≡ y.effect

module _ (s : Source) where
  -- the members of that name have that type, and there is one
  pub record HasMember (m : ℕ) (n : NameId) (t : Ty) : Type 0 where
    pub one : (x : Member) × IsAmong x (members_of s m) × (x.name ≡ Some n)
    pub all : (x : Member) → IsAmong x (members_of s m) → x.name ≡ Some n → x.type ≡ t

  abbrev pub HasMemberOf : Ty → NameId → Ty → Type 0
  HasMemberOf u n t = (m : ℕ) × (u ≡ Struct m) × HasMember m n t

  -- an index into an array, or into what a pointer points to
  abbrev pub IsIndexed : Bool → (of element : Ty) → Type 0
  IsIndexed true u t = (n : Option ℕ) × (u ≡ Array t n)
  IsIndexed false u t = is_pointer u ≡ true

  abbrev mutual
    -- An expression is typed, where its value or its place is wanted.
    pub IsTyped : Want → Exp → Type 0
    IsTyped want (Comma a b t) = IsTyped Value a × IsTyped want b × (type_of b ≡ t)
    IsTyped want (Assign None works a b t) =
        IsTyped Place' a × IsTyped (if_scalar t) b × (type_of a ≡ t) × (type_of b ≡ t)
    IsTyped want (Assign (Some o) works a b t) =
        IsTyped Place' a × IsTyped Value b × (type_of a ≡ t) × (is_integer t ≡ true) × (is_integer works ≡ true)
        × (is_integer (type_of b) ≡ true) × TypesMeet o works (type_of b) works
    IsTyped want (Cond a b c t) =
        IsTyped Value a × IsTyped want b × IsTyped want c × (is_scalar (type_of a) ≡ true) × (type_of b ≡ t) × (type_of c ≡ t)
    IsTyped want (Binary o a b t) =
        IsTyped Value a × IsTyped Value b × IsRead want × (is_integer t ≡ true)
        × (operands_fit o (type_of a) (type_of b) ≡ true) × TypesMeet o (type_of a) (type_of b) t
    IsTyped want (Cast a t) = IsTyped (unless_array (type_of a)) a × IsRead want × (converts_to (type_of a) t ≡ true)
    IsTyped want (Unary sign.Address a t) = IsTyped Place' a × IsRead want × (is_pointer t ≡ true)
    IsTyped want (Unary sign.Deref a t) = IsTyped Value a × (is_pointer (type_of a) ≡ true)
    IsTyped want (Unary sign.Not a t) = IsTyped Value a × IsRead want × (is_scalar (type_of a) ≡ true) × (is_integer t ≡ true)
    IsTyped want (Unary o a t) = IsTyped Value a × IsRead want × (type_of a ≡ t) × (is_integer t ≡ true)
    IsTyped want (PreInc d a t) = IsTyped Place' a × IsRead want × (type_of a ≡ t) × (is_integer t ≡ true)
    IsTyped want (PostInc d a t) = IsTyped Place' a × IsRead want × (type_of a ≡ t) × (is_integer t ≡ true)
    IsTyped want (SizeofExpr a n t) = IsRead want × (is_integer t ≡ true)
    IsTyped want (SizeofType n t) = IsRead want × (is_integer t ≡ true)
    IsTyped want (Index a b t) =
        IsTyped (unless_array (type_of a)) a × IsTyped Value b × (is_integer (type_of b) ≡ true)
        × IsIndexed (is_array (type_of a)) (type_of a) t
    IsTyped want (Call p f es t) =
        Unless (is_name f) (IsTyped Value f × (names_function f ≡ false)) × AllTyped es × IsRead want
        × CallFits es t (effect s f es t)
    IsTyped want (Field a n true t) =
        IsTyped Value a × (is_pointer (type_of a) ≡ true) × HasMemberOf (target_or_void (type_of a)) n t
    IsTyped want (Field a n false t) = IsTyped Place' a × HasMemberOf (type_of a) n t
    IsTyped want (Param n t) = slice_get s.params n ≡ Some t
    IsTyped want (Local n t) = slice_get s.locals n ≡ Some t
    IsTyped want (Global n t) = slice_get s.globals n ≡ Some t
    IsTyped want (Function n b t) = may_be_stub t ≡ true
    IsTyped want (Number n t) = IsRead want × (is_integer t ≡ true)
    IsTyped want (Str x t) = may_be_stub t ≡ true
    IsTyped want (Convert a t) = IsTyped (unless_array (type_of a)) a × IsRead want × (converts_to (type_of a) t ≡ true)
    IsTyped want (Temp n t) = ⊥
    IsTyped want (TempPlace n t) = ⊥

    pub AllTyped : Exps → Type 0
    AllTyped NoExps = Unit {0}
    AllTyped (Exps' e es) = IsTyped Value e × AllTyped es
