-- Integer constants, operators before one operand, casts, `sizeof` and indexing (C11 6.4.4.1, 6.5.2.1, 6.5.3,
-- 6.5.4): what each makes of operands that have their types, or which fault it finds.
use Rattle.std.specs.Prelude.{ℕ, Bool, false, not, ◌&&◌, ◌||◌, Option, Some, None, if◌then◌else◌}
use Rattle.sc_base.specs.declared.skip.Unsupported.TheVariants as u
use Rattle.sc_base.specs.declared.skip.IllTyped.TheVariants as i
use Rattle.sc_tree.specs.declared.token.IntToken.{IntToken}
use Rattle.sc_tree.specs.declared.op.UnaryOp.{UnaryOp}
use Rattle.sc_tree.specs.declared.op.UnaryOp.TheVariants as sign
use Rattle.sc_tree.specs.declared.ctype.CType.{CType, CType-F, out-CType}
use Rattle.sc_tree.specs.declared.ctype.CType.TheVariants as ty
use Rattle.sc_tree.specs.declared.ctype.Signature.{Signature}
use Rattle.sc_tree.specs.declared.ctype.IntKind.{IntKind}
use Rattle.sc_tree.specs.declared.ctype.IntKind.TheVariants as kind
use Rattle.sc_tree.specs.declared.ctype.OpaqueKind.{OpaqueKind}
use Rattle.sc_tree.specs.declared.ctype.Widths.{Widths}
use Rattle.sc_tree.specs.declared.ctype.Widths.TheVariants as widths
use Rattle.sc_tree.specs.declared.expr.Place.{Place}
use Rattle.sc_typed.specs.declared.expr.TExpr.{TExpr}
use Rattle.sc_typed.specs.declared.expr.What.TheVariants as what
use Rattle.sc_typed.specs.Types.{is_integer, is_pointer, is_scalar, is_function, is_void, target, promoted_kind}
use Rattle.sc_typed.specs.Constants.{is_lvalue, constant_kind}
use Rattle.sc_rules.specs.Walks.{Check, done, unsupported, ill_typed}
use Rattle.sc_rules.specs.Conversions.{node, type_of, to, promote, opaque_kind, converts}

-- The type of `sizeof` (C11 6.5.3.4, 7.19).
abbrev pub size_type : Widths → CType
size_type widths.Ilp32 = ty.Int kind.UInt
size_type widths.Lp64 = ty.Int kind.ULong

-- Constants (C11 6.4.4.1): one that no kind of its list holds is not taken.
abbrev pub int_of_kind : Option IntKind → ℕ → Place → Check (Option TExpr)
int_of_kind None n p = unsupported u.Wide p.token
int_of_kind (Some k) n p = done (Some (node (what.Int n) (ty.Int k) p))

abbrev pub int_of_value : Widths → IntToken → Option ℕ → Place → Check (Option TExpr)
int_of_value w t None p = unsupported u.Wide p.token
int_of_value w t (Some n) p = int_of_kind (constant_kind w t.decimal t.unsigned t.longs n) n p

-- the number of a constant, if 64 bits hold it
abbrev pub token_value : IntToken → Option ℕ
token_value t = if t.fits then Some t.value else None

abbrev pub int_constant : Widths → IntToken → Place → Check (Option TExpr)
int_constant w t p = int_of_value w t (token_value t) p

-- Operators before their operand (C11 6.5.3.2, 6.5.3.3).

-- `&`: the operand is an lvalue or a function
abbrev pub address : Place → TExpr → Check (Option TExpr)
address p a =
    if is_lvalue a || is_function (type_of a)
    then done (Some (node (what.Unary sign.Address a) (ty.Ptr (type_of a)) p))
    else ill_typed i.Lvalue p.token

abbrev pub deref_to : Option CType → Place → TExpr → Check (Option TExpr)
deref_to None p a = ill_typed i.Operand p.token
deref_to (Some t) p a = done (Some (node (what.Unary sign.Deref a) t p))

abbrev pub deref : Place → TExpr → Check (Option TExpr)
deref p a = deref_to (target (type_of a)) p a

abbrev pub negation : Place → TExpr → Check (Option TExpr)
negation p a = if is_scalar (type_of a) then done (Some (node (what.Unary sign.Not a) (ty.Int kind.Int) p)) else ill_typed i.Operand p.token

abbrev pub promoting : UnaryOp → Place → TExpr → Check (Option TExpr)
promoting o p a =
    if is_integer (type_of a)
    then done (Some (node (what.Unary o (promote a)) (ty.Int (promoted_kind (type_of a))) p))
    else ill_typed i.Operand p.token

abbrev pub signing : UnaryOp → Place → TExpr → Check (Option TExpr)
signing o p a = if is_pointer (type_of a) then unsupported u.Arith p.token else promoting o p a

-- an operator other than `&`, on a value
abbrev pub unary : UnaryOp → Place → TExpr → Check (Option TExpr)
unary sign.Address p a = address p a
unary sign.Deref p a = deref p a
unary sign.Not p a = negation p a
unary sign.Plus p a = signing sign.Plus p a
unary sign.Minus p a = signing sign.Minus p a
unary sign.Complement p a = promoting sign.Complement p a

-- Casts (C11 6.5.4): a value of an opaque type that a cast makes of an integer is refused where it is taken.
abbrev pub is_opaque_of_integer : CType → TExpr → Option OpaqueKind → Bool
is_opaque_of_integer t e None = false
is_opaque_of_integer t e (Some k) = is_integer (type_of e)

abbrev pub may_cast : Widths → CType → TExpr → Bool
may_cast w t e = is_opaque_of_integer t e (opaque_kind t) || (is_void t || (is_scalar t && converts w e t))

abbrev pub cast : Widths → Place → CType → TExpr → Check (Option TExpr)
cast w p t e =
    if may_cast w t e
    then done (Some (node (what.Cast e) t p))
    else (if is_pointer (type_of e) || is_pointer t then unsupported u.Cast p.token else ill_typed i.Operand p.token)

-- `sizeof` (C11 6.5.3.4)
abbrev pub size_of_expression : Widths → Option ℕ → Place → TExpr → Check (Option TExpr)
size_of_expression w None p e = ill_typed i.Incomplete p.token
size_of_expression w (Some n) p e = done (Some (node (what.SizeofExpr e n) (size_type w) p))

abbrev pub size_of_type : Widths → Option ℕ → Place → Check (Option TExpr)
size_of_type w None p = ill_typed i.Incomplete p.token
size_of_type w (Some n) p = done (Some (node (what.SizeofType n) (size_type w) p))

-- Indexing (C11 6.5.2.1): the left side is an array, or a pointer to objects.
abbrev pub element_layer : CType-F CType Signature → Option CType
element_layer (CType-F.Array t n) = Some t
element_layer (CType-F.Ptr t) = if is_function t then None else Some t
element_layer _ = None

abbrev pub element : CType → Option CType
element t = element_layer (out-CType t)

abbrev pub index_to : Option CType → Place → TExpr → TExpr → Check (Option TExpr)
index_to None p a k = ill_typed i.Operand p.token
index_to (Some t) p a k = if is_integer (type_of k) then done (Some (node (what.Index a k) t p)) else ill_typed i.Operand p.token

abbrev pub index : Place → TExpr → TExpr → Check (Option TExpr)
index p a k = index_to (element (type_of a)) p a k
