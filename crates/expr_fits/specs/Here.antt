-- Whether an expression fits a layout, over temps that keep what a list says, as a test: construct by construct what
-- `FitsOver` asks.
use Rattle.std.specs.Prelude.{ℕ, zero, suc, nat_lt, Bool, true, false, not, ◌&&◌, ◌||◌, Option, Some, None, List, length, slice_get}
use Rattle.sc_base.specs.declared.pos.NameId.{NameId}
use Rattle.sc_tree.specs.declared.op.BinaryOp.{BinaryOp}
use Rattle.sc_tree.specs.declared.op.UnaryOp.{UnaryOp}
use Rattle.sc_tree.specs.declared.op.UnaryOp.TheVariants as sign
use Rattle.sum_rows.specs.declared.path.Step.TheVariants as step
use Rattle.sc_world.specs.declared.run.Origin.{Origin}
use Rattle.sc_world.specs.declared.run.Origin.TheVariants as origin
use Rattle.sc_world.specs.Tree.{Ty, is_integer, is_pointer, is_array, target_or_void, same_type, Exp, Comma, Assign, Cond, Binary, Cast, Unary, PreInc, PostInc, SizeofExpr, SizeofType, Index, Call, Field, Param, Local, Global, Function, Number, Str, Convert, Temp, TempPlace, type_of}
use Rattle.sc_world.specs.Layout.{Layout, location, location_of, part, has_type, is_stub, same_origin}
use Rattle.sc_world.specs.Eval.{Want, Value, Place'}
use Rattle.flow_types.specs.Kinds as flow
use Rattle.run_laws.specs.Fits.{operands_fit, in_one_type, gives_truth, converts_to, is_scalar, may_be_stub, unless_array, if_scalar}

-- Types.

abbrev pub is_read : Want → Bool
is_read Value = true
is_read Place' = false

-- the types by which an operator works, and that of the whole
abbrev pub types_meet : BinaryOp → (left right whole : Ty) → Bool
types_meet o u v t = (not (in_one_type o && is_integer u) || same_type u v) && (gives_truth o || same_type t u)

abbrev pub binary_fits : BinaryOp → (left right whole : Ty) → Bool
binary_fits o u v t = is_integer t && (operands_fit o u v && types_meet o u v t)

-- of `=`, and of `+=` and its kin, which work in the first type
abbrev pub assign_fits : Option BinaryOp → (works left right whole : Ty) → Bool
assign_fits None w u v t = same_type u t && same_type v t
assign_fits (Some o) w u v t =
    same_type u t && (is_integer t && (is_integer w && (is_integer v && types_meet o w v w)))

-- what is wanted of the right side of an assignment
abbrev pub right_wanted : Option BinaryOp → Ty → Want
right_wanted None t = if_scalar t
right_wanted (Some o) t = Value

-- what is wanted of the operand of a sign
abbrev pub operand_wanted : UnaryOp → Want
operand_wanted sign.Address = Place'
operand_wanted _ = Value

abbrev pub unary_fits : UnaryOp → Want → (operand whole : Ty) → Bool
unary_fits sign.Address want u t = is_read want && is_pointer t
unary_fits sign.Deref want u t = is_pointer u
unary_fits sign.Not want u t = is_read want && (is_scalar u && is_integer t)
unary_fits _ want u t = is_read want && (same_type u t && is_integer t)

-- of `++` and `--`
abbrev pub count_fits : Want → (operand whole : Ty) → Bool
count_fits want u t = is_read want && (same_type u t && is_integer t)

abbrev pub conversion_fits : Want → (from to : Ty) → Bool
conversion_fits want u t = is_read want && converts_to u t

abbrev pub number_fits : Want → Ty → Bool
number_fits want t = is_read want && is_integer t

-- what is wanted of what stands before `->` or `.`
abbrev pub object_wanted : (arrow : Bool) → Want
object_wanted true = Value
object_wanted false = Place'

-- Temps.

-- what is kept is what is wanted, of that type
abbrev pub is_kept_as : Option flow.Kind → Want → Ty → Bool
is_kept_as None want t = false
is_kept_as (Some (flow.ValueOf u)) Value t = same_type u t
is_kept_as (Some (flow.ValueOf u)) Place' t = false
is_kept_as (Some (flow.PlaceOf u)) Value t = false
is_kept_as (Some (flow.PlaceOf u)) Place' t = same_type u t

abbrev pub keeps : List flow.Kind → ℕ → Want → Ty → Bool
keeps ks n want t = is_kept_as (slice_get ks n) want t

-- whether each number below that one passes
abbrev pub each_below : (ℕ → Bool) → ℕ → Bool
each_below test zero = true
each_below test (suc n) = test n && each_below test n

module _ (p : Layout) where
  -- Names.

  abbrev pub is_there : Origin → Bool
  is_there o = nat_lt (location_of p o) (length p.locations) && same_origin o (location p (location_of p o)).origin

  abbrev pub is_typed_there : Origin → Ty → Bool
  is_typed_there o t = is_there o && has_type (location p (location_of p o)) t

  abbrev pub is_stub_there : Origin → Ty → Bool
  is_stub_there o t = is_there o && (may_be_stub t && is_stub (location p (location_of p o)))

  -- Parts.

  -- a location of the type, or the stub of a string or a function
  abbrev pub stands_at : Ty → ℕ → Bool
  stands_at t at =
      has_type (location p at) t || (nat_lt at (length p.locations) && (may_be_stub t && is_stub (location p at)))

  abbrev pub has_type_there : Option ℕ → Ty → Bool
  has_type_there None t = false
  has_type_there (Some at) t = has_type (location p at) t

  -- where something of the first type stands, the member is there, with the other type
  abbrev pub member_fits : (whole : Ty) → NameId → (member : Ty) → ℕ → Bool
  member_fits u n t at = not (stands_at u at) || has_type_there (part p at (step.Field n)) t

  abbrev pub members_fit : (whole : Ty) → NameId → (member : Ty) → Bool
  members_fit u n t = each_below (member_fits u n t) (length p.locations)

  -- the same of what a pointer of that type points to
  abbrev pub members_behind_fit : (pointer : Ty) → NameId → (member : Ty) → Bool
  members_behind_fit u n t = is_pointer u && members_fit (target_or_void u) n t

  -- of `->` and of `.`
  abbrev pub field_fits : (arrow : Bool) → (object : Ty) → NameId → (member : Ty) → Bool
  field_fits true u n t = members_behind_fit u n t
  field_fits false u n t = members_fit u n t

  -- an element of what stands somewhere with that type
  abbrev pub is_element_of : Ty → Origin → Bool
  is_element_of u (origin.Part up (step.Elem k)) = stands_at u up
  is_element_of u _ = false

  -- a location that is an element of the first type has the other one
  abbrev pub element_fits : (array element : Ty) → ℕ → Bool
  element_fits u t at = not (is_element_of u (location p at).origin) || has_type (location p at) t

  abbrev pub elements_fit : (array element : Ty) → Bool
  elements_fit u t = each_below (element_fits u t) (length p.locations)

  abbrev pub indexed_fits : Bool → (of element : Ty) → Bool
  indexed_fits true u t = elements_fit u t
  indexed_fits false u t = is_pointer u

  -- Expressions.

  module _ (ks : List flow.Kind) where
    abbrev pub fits_over : Want → Exp → Bool
    fits_over want (Comma a b t) = fits_over Value a && (fits_over want b && same_type (type_of b) t)
    fits_over want (Assign o works a b t) =
        fits_over Place' a && (fits_over (right_wanted o t) b && assign_fits o works (type_of a) (type_of b) t)
    fits_over want (Cond a b c t) = false
    fits_over want (Binary o a b t) =
        fits_over Value a && (fits_over Value b && (is_read want && binary_fits o (type_of a) (type_of b) t))
    fits_over want (Cast a t) = fits_over (unless_array (type_of a)) a && conversion_fits want (type_of a) t
    fits_over want (Unary o a t) = fits_over (operand_wanted o) a && unary_fits o want (type_of a) t
    fits_over want (PreInc d a t) = fits_over Place' a && count_fits want (type_of a) t
    fits_over want (PostInc d a t) = fits_over Place' a && count_fits want (type_of a) t
    fits_over want (SizeofExpr a n t) = number_fits want t
    fits_over want (SizeofType n t) = number_fits want t
    fits_over want (Index a b t) =
        fits_over (unless_array (type_of a)) a
        && (fits_over Value b && (is_integer (type_of b) && indexed_fits (is_array (type_of a)) (type_of a) t))
    fits_over want (Call x f es t) = false
    fits_over want (Field a n arrow t) = fits_over (object_wanted arrow) a && field_fits arrow (type_of a) n t
    fits_over want (Param n t) = is_typed_there (origin.Param n) t
    fits_over want (Local n t) = is_typed_there (origin.Local n) t
    fits_over want (Global n t) = is_typed_there (origin.Global n) t
    fits_over want (Function n b t) = is_stub_there (origin.Function n) t
    fits_over want (Number n t) = number_fits want t
    fits_over want (Str x t) = is_stub_there (origin.Literal x.token) t
    fits_over want (Convert a t) = fits_over (unless_array (type_of a)) a && conversion_fits want (type_of a) t
    fits_over want (Temp n t) = is_read want && keeps ks n Value t
    fits_over want (TempPlace n t) = keeps ks n Place' t
