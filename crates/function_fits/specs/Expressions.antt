-- Whether an expression of the text fits a layout, as a test: construct by construct what `Fits` asks.
use Rattle.std.specs.Prelude.{Bool, true, false, ◌&&◌, ◌||◌}
use Rattle.sc_base.specs.declared.pos.Pos.{Pos}
use Rattle.sc_world.specs.declared.run.Origin.TheVariants as origin
use Rattle.sc_world.specs.Tree.{Ty, is_integer, is_pointer, is_array, is_void, same_type, Exp, Comma, Assign, Cond, Binary, Cast, Unary, PreInc, PostInc, SizeofExpr, SizeofType, Index, Call, Field, Param, Local, Global, Function, Number, Str, Convert, Temp, TempPlace, Exps, NoExps, Exps', type_of}
use Rattle.sc_world.specs.Source.{Effect, Operation, Try, Allocate, Release, Ends, Expect, Known, Unknown}
use Rattle.sc_world.specs.Layout.{Layout, same_pos, site_at}
use Rattle.sc_world.specs.Eval.{Want, Value, Place', is_name}
use Rattle.run_laws.specs.Fits.{is_scalar, unless_array, may_give}
use Rattle.expr_fits.specs.Here.{is_read, assign_fits, right_wanted, binary_fits, conversion_fits, operand_wanted, unary_fits, count_fits, number_fits, object_wanted, field_fits, indexed_fits, is_typed_there, is_stub_there}

-- `? :` tests a number or a pointer, and both of its branches have the type of the whole
abbrev pub arms_fit : (test left right whole : Ty) → Bool
arms_fit u v w t = is_scalar u && (same_type v t && same_type w t)

-- Calls.

-- the first argument, if there is one, is a pointer
abbrev pub first_points : Exps → Bool
first_points NoExps = true
first_points (Exps' e es) = is_pointer (type_of e)

-- the first argument is there, with that type
abbrev pub is_first : Exps → Ty → Bool
is_first NoExps t = false
is_first (Exps' e es) t = same_type (type_of e) t

-- the type that a call has, and the argument that it takes, by what it does
abbrev pub effect_fits : Effect → Exps → Ty → Bool
effect_fits (Operation n) es t = (is_integer t || is_void t) && first_points es
effect_fits (Try a b) es t = is_integer t && first_points es
effect_fits (Allocate zeroed) es t = is_pointer t
effect_fits Release es t = is_void t && first_points es
effect_fits Ends es t = true
effect_fits Expect es t = is_first es t
effect_fits (Known k) es t = may_give t
effect_fits Unknown es t = may_give t

module _ (p : Layout) where
  -- a call is among those of the layout, by its opening bracket, and is of the type that it has there by what it does
  abbrev pub call_fits : (bracket : Pos) → Exps → Ty → Bool
  call_fits x es t = same_pos x (site_at p x).site.bracket && effect_fits (site_at p x).site.effect es t

  -- an index is an integer, into an array or into what a pointer points to
  abbrev pub index_fits : (whole index element : Ty) → Bool
  index_fits u v t = is_integer v && indexed_fits p (is_array u) u t

  abbrev mutual
    -- where its value or its place is wanted
    pub fits : Want → Exp → Bool
    fits want (Comma a b t) = fits Value a && (fits want b && same_type (type_of b) t)
    fits want (Assign o works a b t) =
        fits Place' a && (fits (right_wanted o t) b && assign_fits o works (type_of a) (type_of b) t)
    fits want (Cond a b c t) =
        fits Value a && (fits want b && (fits want c && arms_fit (type_of a) (type_of b) (type_of c) t))
    fits want (Binary o a b t) =
        fits Value a && (fits Value b && (is_read want && binary_fits o (type_of a) (type_of b) t))
    fits want (Cast a t) = fits (unless_array (type_of a)) a && conversion_fits want (type_of a) t
    fits want (Unary o a t) = fits (operand_wanted o) a && unary_fits o want (type_of a) t
    fits want (PreInc d a t) = fits Place' a && count_fits want (type_of a) t
    fits want (PostInc d a t) = fits Place' a && count_fits want (type_of a) t
    fits want (SizeofExpr a n t) = number_fits want t
    fits want (SizeofType n t) = number_fits want t
    fits want (Index a b t) =
        fits (unless_array (type_of a)) a && (fits Value b && index_fits (type_of a) (type_of b) t)
    fits want (Call x f es t) = (is_name f || fits Value f) && (all_fit es && (is_read want && call_fits x.token es t))
    fits want (Field a n arrow t) = fits (object_wanted arrow) a && field_fits p arrow (type_of a) n t
    fits want (Param n t) = is_typed_there p (origin.Param n) t
    fits want (Local n t) = is_typed_there p (origin.Local n) t
    fits want (Global n t) = is_typed_there p (origin.Global n) t
    fits want (Function n b t) = is_stub_there p (origin.Function n) t
    fits want (Number n t) = number_fits want t
    fits want (Str x t) = is_stub_there p (origin.Literal x.token) t
    fits want (Convert a t) = fits (unless_array (type_of a)) a && conversion_fits want (type_of a) t
    fits want (Temp n t) = false
    fits want (TempPlace n t) = false

    -- the values of these are wanted, one after another
    pub all_fit : Exps → Bool
    all_fit NoExps = true
    all_fit (Exps' e es) = fits Value e && all_fit es
