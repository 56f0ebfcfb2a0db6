-- Expressions that fit a layout: the operands of each operator have the types that it wants, and what an expression
-- names is among the locations, with its type. And what the values and the places of a type are.
use Rattle.std.specs.Prelude.{◌≡◌, ℕ, ◌<◌, Bool, true, false, ◌&&◌, ◌||◌, ◌⊎◌, Some, None, length, if◌then◌else◌}
use Rattle.sc_base.specs.declared.pos.NameId.{NameId}
use Rattle.sc_tree.specs.declared.op.BinaryOp.{BinaryOp}
use Rattle.sc_tree.specs.declared.op.BinaryOp.TheVariants as op
use Rattle.sc_tree.specs.declared.op.UnaryOp.TheVariants as sign
use Rattle.run_store.specs.Concrete.{Cell, Kind, Numbers, Pointers, kind_of}
use Rattle.sum_rows.specs.declared.path.Step.TheVariants as step
use Rattle.sc_world.specs.declared.run.Origin.{Origin}
use Rattle.sc_world.specs.declared.run.Origin.TheVariants as origin
use Rattle.sc_world.specs.Tree.{Ty, Array, Func, is_integer, is_pointer, is_array, is_void, is_bool, int_bits, target_or_void, Exp, Comma, Assign, Cond, Binary, Cast, Unary, PreInc, PostInc, SizeofExpr, SizeofType, Index, Call, Field, Param, Local, Global, Function, Number, Str, Convert, Temp, TempPlace, Exps, NoExps, Exps', type_of}
use Rattle.sc_world.specs.Source.{Source, Effect, Operation, Try, Allocate, Release, Ends, Expect, Known, Unknown}
use Rattle.sc_world.specs.Layout.{Layout, location, location_of, part, has_type, is_stub, same_origin, same_pos, site_at}
use Rattle.sc_world.specs.World.{pointer_to}
use Rattle.sc_world.specs.Eval.{Want, Value, Place', place_of, is_logical, is_name}

-- Values and places.

-- a number of the width of the type, or a pointer; what has no cell, as a struct or a function, is told by its place
abbrev pub value_kind : Source → Ty → Kind
value_kind s t = if is_integer t then Numbers (int_bits s.widths t) else Pointers

-- of `void` nothing is said
pub record IsValueOf (s : Source) (t : Ty) (c : Cell) : Type 0 where
  pub kind : is_void t ≡ false → kind_of c ≡ value_kind s t

-- strings and functions have stubs, which have no type
abbrev pub may_be_stub : Ty → Bool
may_be_stub (Array t n) = true
may_be_stub (Func t known ts variadic) = true
may_be_stub _ = false

-- a location of the type, or the stub of a string or a function
abbrev pub StandsAt : Layout → Ty → ℕ → Type 0
StandsAt p t at =
    (has_type (location p at) t ≡ true)
    ⊎ ((at < length p.locations) × (may_be_stub t ≡ true) × (is_stub (location p at) ≡ true))

-- a pointer, not null, to what stands there
pub record IsPlaceOf (p : Layout) (t : Ty) (c : Cell) : Type 0 where
  pub pointer : c ≡ pointer_to (place_of c)
  pub stands : StandsAt p t (place_of c)

-- Which operands an operator takes.

abbrev pub is_scalar : Ty → Bool
is_scalar t = is_integer t || is_pointer t

abbrev pub is_function : Ty → Bool
is_function (Func t known ts variadic) = true
is_function _ = false

-- pointers are only compared as equal or not
abbrev pub compares_pointers : BinaryOp → Bool
compares_pointers op.Equal = true
compares_pointers op.NotEqual = true
compares_pointers _ = false

abbrev pub operands_fit : BinaryOp → Ty → Ty → Bool
operands_fit o t u =
    if is_logical o
    then is_scalar t && is_scalar u
    else ((is_integer t && is_integer u) || (compares_pointers o && (is_pointer t && is_pointer u)))

-- both sides are brought to one type (C11 6.3.1.8), but for shifts and logical operators
abbrev pub in_one_type : BinaryOp → Bool
in_one_type op.ShiftLeft = false
in_one_type op.ShiftRight = false
in_one_type op.And = false
in_one_type op.Or = false
in_one_type _ = true

-- comparisons and logical operators give a truth, any other operator a value of the type on its left
abbrev pub gives_truth : BinaryOp → Bool
gives_truth op.Less = true
gives_truth op.Greater = true
gives_truth op.LessEqual = true
gives_truth op.GreaterEqual = true
gives_truth op.Equal = true
gives_truth op.NotEqual = true
gives_truth op.And = true
gives_truth op.Or = true
gives_truth _ = false

-- The types by which an operator works: numbers that are combined or compared have one type, and what is no truth has
-- the type of the left side.
pub record TypesMeet (o : BinaryOp) (left right whole : Ty) : Type 0 where
  pub same : in_one_type o ≡ true → is_integer left ≡ true → left ≡ right
  pub keeps : gives_truth o ≡ false → whole ≡ left

-- Conversions (C11 6.3): to `void` from anything; of an array or a function to a pointer; of an integer to a scalar
-- type; of a pointer to a pointer or to `_Bool`.
abbrev pub converts_to : (from to : Ty) → Bool
converts_to u t =
    is_void t
    || (if is_array u
    then is_pointer t
    else (if is_integer u then is_scalar t else ((is_pointer u || is_function u) && (is_pointer t || is_bool t))))

-- what is wanted of an array is its place, and of what is assigned a value only where it has a cell
abbrev pub unless_array : Ty → Want
unless_array t = if is_array t then Place' else Value

abbrev pub if_scalar : Ty → Want
if_scalar t = if is_scalar t then Value else Place'

-- only the value is wanted
abbrev pub IsRead : Want → Type 0
IsRead Value = Unit {0}
IsRead Place' = ⊥

abbrev pub Unless : Bool → Type 0 → Type 0
Unless true P = Unit {0}
Unless false P = P

-- a call gives an integer, a pointer, or nothing
abbrev pub may_give : Ty → Bool
may_give t = is_integer t || (is_pointer t || is_void t)

abbrev pub IsFirst : Exps → Ty → Type 0
IsFirst NoExps t = ⊥
IsFirst (Exps' e es) t = type_of e ≡ t

-- the first argument, if there is one, is a pointer
abbrev pub FirstPoints : Exps → Type 0
FirstPoints NoExps = Unit {0}
FirstPoints (Exps' e es) = is_pointer (type_of e) ≡ true

-- the type that a call has, and the argument that it takes, by what it does
abbrev pub CallFits : Exps → Ty → Effect → Type 0
CallFits es t (Operation n) = (is_integer t || is_void t ≡ true) × FirstPoints es
CallFits es t (Try a b) = (is_integer t ≡ true) × FirstPoints es
CallFits es t (Allocate zeroed) = is_pointer t ≡ true
CallFits es t Release = (is_void t ≡ true) × FirstPoints es
CallFits es t Ends = Unit {0}
CallFits es t Expect = IsFirst es t
CallFits es t (Known k) = may_give t ≡ true
CallFits es t Unknown = may_give t ≡ true

module _ (p : Layout) where
  -- what has this origin is among the locations
  abbrev pub IsThere : Origin → Type 0
  IsThere o =
      (location_of p o < length p.locations) × (same_origin o (location p (location_of p o)).origin ≡ true)

  abbrev pub IsTypedThere : Origin → Ty → Type 0
  IsTypedThere o t = IsThere o × (has_type (location p (location_of p o)) t ≡ true)

  -- a string or a function
  abbrev pub IsStubThere : Origin → Ty → Type 0
  IsStubThere o t = IsThere o × (may_be_stub t ≡ true) × (is_stub (location p (location_of p o)) ≡ true)

  -- each element that an array of that type has is of the other type
  abbrev pub ElementsFit : (array element : Ty) → Type 0
  ElementsFit u t =
      (at k to : ℕ) → StandsAt p u at → part p at (step.Elem k) ≡ Some to → has_type (location p to) t ≡ true

  -- an index into an array, or into what a pointer points to
  abbrev pub Indexed : Bool → (of element : Ty) → Type 0
  Indexed true u t = ElementsFit u t
  Indexed false u t = is_pointer u ≡ true

  -- the member is there in each location of that type
  abbrev pub MemberFits : Ty → NameId → Ty → Type 0
  MemberFits u n t =
      (at : ℕ) → StandsAt p u at → (to : ℕ) × (part p at (step.Field n) ≡ Some to) × (has_type (location p to) t ≡ true)

  abbrev mutual
    -- An expression fits, where its value or its place is wanted.
    pub Fits : Want → Exp → Type 0
    Fits want (Comma a b t) = Fits Value a × Fits want b × (type_of b ≡ t)
    Fits want (Assign None works a b t) = Fits Place' a × Fits (if_scalar t) b × (type_of a ≡ t) × (type_of b ≡ t)
    Fits want (Assign (Some o) works a b t) =
        Fits Place' a × Fits Value b × (type_of a ≡ t) × (is_integer t ≡ true) × (is_integer works ≡ true)
        × (is_integer (type_of b) ≡ true) × TypesMeet o works (type_of b) works
    Fits want (Cond a b c t) =
        Fits Value a × Fits want b × Fits want c × (is_scalar (type_of a) ≡ true) × (type_of b ≡ t) × (type_of c ≡ t)
    Fits want (Binary o a b t) =
        Fits Value a × Fits Value b × IsRead want × (is_integer t ≡ true)
        × (operands_fit o (type_of a) (type_of b) ≡ true) × TypesMeet o (type_of a) (type_of b) t
    Fits want (Cast a t) = Fits (unless_array (type_of a)) a × IsRead want × (converts_to (type_of a) t ≡ true)
    Fits want (Unary sign.Address a t) = Fits Place' a × IsRead want × (is_pointer t ≡ true)
    Fits want (Unary sign.Deref a t) = Fits Value a × (is_pointer (type_of a) ≡ true)
    Fits want (Unary sign.Not a t) = Fits Value a × IsRead want × (is_scalar (type_of a) ≡ true) × (is_integer t ≡ true)
    -- the operand is promoted (C11 6.5.3.3)
    Fits want (Unary o a t) = Fits Value a × IsRead want × (type_of a ≡ t) × (is_integer t ≡ true)
    Fits want (PreInc d a t) = Fits Place' a × IsRead want × (type_of a ≡ t) × (is_integer t ≡ true)
    Fits want (PostInc d a t) = Fits Place' a × IsRead want × (type_of a ≡ t) × (is_integer t ≡ true)
    Fits want (SizeofExpr a n t) = IsRead want × (is_integer t ≡ true)
    Fits want (SizeofType n t) = IsRead want × (is_integer t ≡ true)
    Fits want (Index a b t) =
        Fits (unless_array (type_of a)) a × Fits Value b × (is_integer (type_of b) ≡ true)
        × Indexed (is_array (type_of a)) (type_of a) t
    Fits want (Call x f es t) =
        Unless (is_name f) (Fits Value f) × FitAll es × IsRead want
        × (same_pos x.token (site_at p x.token).site.bracket ≡ true) × CallFits es t (site_at p x.token).site.effect
    Fits want (Field a n true t) =
        Fits Value a × (is_pointer (type_of a) ≡ true) × MemberFits (target_or_void (type_of a)) n t
    Fits want (Field a n false t) = Fits Place' a × MemberFits (type_of a) n t
    Fits want (Param n t) = IsTypedThere (origin.Param n) t
    Fits want (Local n t) = IsTypedThere (origin.Local n) t
    Fits want (Global n t) = IsTypedThere (origin.Global n) t
    Fits want (Function n b t) = IsStubThere (origin.Function n) t
    Fits want (Number n t) = IsRead want × (is_integer t ≡ true)
    Fits want (Str x t) = IsStubThere (origin.Literal x.token) t
    Fits want (Convert a t) = Fits (unless_array (type_of a)) a × IsRead want × (converts_to (type_of a) t ≡ true)
    -- typing makes no temps
    Fits want (Temp n t) = ⊥
    Fits want (TempPlace n t) = ⊥

    pub FitAll : Exps → Type 0
    FitAll NoExps = Unit {0}
    FitAll (Exps' e es) = Fits Value e × FitAll es
