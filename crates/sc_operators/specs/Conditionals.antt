-- `? :` and the comma operator (C11 6.5.15, 6.5.17): what each makes of operands that have their types, or which
-- fault it finds.
use Rattle.std.specs.Prelude.{Bool, not, ◌&&◌, Option, Some, None, if◌then◌else◌}
use Rattle.sc_base.specs.declared.skip.Unsupported.TheVariants as u
use Rattle.sc_base.specs.declared.skip.IllTyped.TheVariants as i
use Rattle.sc_tree.specs.declared.ctype.CType.{CType}
use Rattle.sc_tree.specs.declared.ctype.CType.TheVariants as ty
use Rattle.sc_tree.specs.declared.ctype.Widths.{Widths}
use Rattle.sc_tree.specs.declared.expr.Place.{Place}
use Rattle.sc_typed.specs.declared.expr.TExpr.{TExpr}
use Rattle.sc_typed.specs.declared.expr.What.TheVariants as what
use Rattle.sc_typed.specs.Types.{is_pointer, is_scalar, is_aggregate, is_void, is_void_pointer}
use Rattle.sc_typed.specs.Constants.{is_null_constant}
use Rattle.sc_rules.specs.Walks.{Check, ◌>>=◌, done, unsupported, ill_typed}
use Rattle.sc_rules.specs.Conversions.{node, type_of, place_of, to, common_of}
use Rattle.sc_manners.specs.Manners.{both_integers, some_pointer}

-- `? :` (C11 6.5.15)

abbrev pub pointer_arms : Widths → TExpr → TExpr → Option CType
pointer_arms w b c =
    if is_pointer (type_of b) && is_pointer (type_of c)
    then Some (if is_void_pointer (type_of c) then type_of c else type_of b)
    else (if is_null_constant w b && is_null_constant w c then Some (ty.Ptr ty.Void) else None)

-- whether exactly the first is a null constant, and the second a pointer
abbrev pub follows_pointer : Widths → TExpr → TExpr → Bool
follows_pointer w b c = is_null_constant w b && (not (is_null_constant w c) && is_pointer (type_of c))

-- the type of `? :` by its arms, of which one is a pointer
abbrev pub mixed_arms : Widths → TExpr → TExpr → Option CType
mixed_arms w b c =
    if follows_pointer w b c
    then Some (type_of c)
    else (if follows_pointer w c b then Some (type_of b) else pointer_arms w b c)

-- the type of `? :` by its arms
abbrev pub arms_type : Widths → TExpr → TExpr → Option CType
arms_type w b c =
    if both_integers b c
    then Some (common_of w b c)
    else (if is_void (type_of b) && is_void (type_of c)
    then Some ty.Void
    else (if some_pointer b c then mixed_arms w b c else None))

abbrev pub chosen : CType → Place → TExpr → TExpr → TExpr → TExpr
chosen t p a b c = node (what.Cond a (to t b) (to t c)) t p

abbrev pub conditional_to : Option CType → Place → TExpr → TExpr → TExpr → Check (Option TExpr)
conditional_to None p a b c = ill_typed i.Operand p.token
conditional_to (Some t) p a b c =
    if is_scalar (type_of a) then done (Some (chosen t p a b c)) else ill_typed i.Operand p.token

-- an operand that is a struct or union is not taken
abbrev pub no_aggregate : Option TExpr → Check (Option TExpr)
no_aggregate None = done None
no_aggregate (Some e) = if is_aggregate (type_of e) then unsupported u.Struct (place_of e).first else done (Some e)

-- each operand that has a type is judged, whatever faults others have
abbrev pub conditional_of : Widths → Place → Option TExpr → Option TExpr → Option TExpr → Check (Option TExpr)
conditional_of w p None b c = done None
conditional_of w p (Some a) None c = done None
conditional_of w p (Some a) (Some b) None = done None
conditional_of w p (Some a) (Some b) (Some c) = conditional_to (arms_type w b c) p a b c

abbrev pub conditional : Widths → Place → Option TExpr → Option TExpr → Option TExpr → Check (Option TExpr)
conditional w p a b c = do
  x ← no_aggregate a
  y ← no_aggregate b
  z ← no_aggregate c
  conditional_of w p x y z

-- the comma operator (C11 6.5.17)
abbrev pub comma : Place → TExpr → TExpr → TExpr
comma p a b = node (what.Comma a b) (type_of b) p
