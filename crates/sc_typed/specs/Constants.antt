-- Integer constant expressions (C11 6.6), null pointer constants (C11 6.3.2.3), lvalues (C11 6.3.2.1) and the
-- types of constants (C11 6.4.4.1).
use Rattle.std.specs.Prelude.{ℕ, ◌-◌, ◌^◌, nat_eq, nat_lt, Bool, true, false, not, ◌&&◌, ◌||◌, Option, Some, None, List, [], ◌∷◌, ℤ, find, if◌then◌else◌}
use Rattle.sc_tree.specs.declared.op.BinaryOp.{BinaryOp}
use Rattle.sc_tree.specs.declared.op.BinaryOp.TheVariants as op
use Rattle.sc_tree.specs.declared.op.UnaryOp.{UnaryOp}
use Rattle.sc_tree.specs.declared.op.UnaryOp.TheVariants as sign
use Rattle.sc_tree.specs.declared.ctype.CType.{CType}
use Rattle.sc_tree.specs.declared.ctype.IntKind.{IntKind}
use Rattle.sc_tree.specs.declared.ctype.IntKind.TheVariants as kind
use Rattle.sc_tree.specs.declared.ctype.Widths.{Widths}
use Rattle.sc_typed.specs.declared.expr.TExpr.{TExpr, out-TExpr}
use Rattle.sc_typed.specs.declared.expr.What.{What, What-F, out-What}
use Rattle.sc_typed.specs.declared.expr.What.TheFolds.{fold-TExpr}
use Rattle.sc_typed.specs.Kinds.{rank, is_signed, kind_bits}
use Rattle.sc_typed.specs.Types.{is_integer, is_void_pointer, is_function, has_sign, value_bits}
use Rattle.sc_typed.specs.Arith.{wrapped, truth, computed, takes, of_one, converted, number}

-- What folding makes of an expression: its type; whether all of it is built as a constant is; and then its
-- bits, none where a division or a shift in it has no value. (A number that the width of its type does not
-- hold is none; a typed program has no such number.)
pub record Folded : Type 0 where
  pub ctype : CType
  pub form : Bool
  pub value : Option ℕ

abbrev pub no_constant : CType → Folded
no_constant t = record { ctype = t; form = false; value = None }

-- that much made of an expression of that type
abbrev pub folding : CType → (form : Bool) → Option ℕ → Folded
folding t form v = record { ctype = t; form = form; value = v }

abbrev pub holds_bits : (bits n : ℕ) → Bool
holds_bits bits n = nat_lt n (2 ^ bits)

abbrev pub at_width : (bits : ℕ) → Option ℕ → Option ℕ
at_width bits None = None
at_width bits (Some n) = if holds_bits bits n then Some n else None

abbrev pub constant_of : Widths → CType → Option ℕ → Folded
constant_of w t v = record { ctype = t; form = true; value = at_width (value_bits w t) v }

-- an operator on two values
abbrev pub applied : Widths → BinaryOp → CType → Option ℕ → Option ℕ → Option ℕ
applied w o t None b = None
applied w o t (Some m) None = None
applied w o t (Some m) (Some n) =
    if holds_bits (value_bits w t) n && takes o (value_bits w t) (has_sign t) m n
    then Some (computed o (value_bits w t) (has_sign t) m n)
    else None

abbrev pub truth_if : Option ℕ → Option ℕ
truth_if None = None
truth_if (Some n) = Some (truth (not (nat_eq n 0)))

-- `&&` and `||` look at the right side only where they need it
abbrev pub and_then : Option ℕ → Option ℕ → Option ℕ
and_then None b = None
and_then (Some m) b = if nat_eq m 0 then Some 0 else truth_if b

abbrev pub or_else : Option ℕ → Option ℕ → Option ℕ
or_else None b = None
or_else (Some m) b = if nat_eq m 0 then truth_if b else Some 1

abbrev pub binary_value : Widths → BinaryOp → CType → Option ℕ → Option ℕ → Option ℕ
binary_value w op.And t a b = and_then a b
binary_value w op.Or t a b = or_else a b
binary_value w o t a b = applied w o t a b

abbrev pub chosen_value : Option ℕ → Option ℕ → Option ℕ → Option ℕ
chosen_value None b c = None
chosen_value (Some n) b c = if nat_eq n 0 then c else b

abbrev pub unary_value : Widths → UnaryOp → CType → Option ℕ → Option ℕ
unary_value w o t None = None
unary_value w o t (Some n) = Some (of_one o (value_bits w t) n)

abbrev pub converted_value : Widths → (from to : CType) → Option ℕ → Option ℕ
converted_value w from to None = None
converted_value w from to (Some n) = Some (converted w from to n)

-- the operators before an operand that stand in constants
abbrev pub is_constant_operator : UnaryOp → Bool
is_constant_operator sign.Address = false
is_constant_operator sign.Deref = false
is_constant_operator _ = true

abbrev pub if_form : Widths → Bool → CType → Option ℕ → Folded
if_form w true t v = constant_of w t v
if_form w false t v = no_constant t

-- the form of an integer operand
abbrev pub is_operand : Folded → Bool
is_operand e = e.form && is_integer e.ctype

-- a conversion from an integer type to an integer type
abbrev pub folded_conversion : Widths → Folded → CType → Folded
folded_conversion w e t = if_form w (is_operand e && is_integer t) t (converted_value w e.ctype t e.value)

abbrev pub folded_choice : Widths → (a b c : Folded) → CType → Folded
folded_choice w a b c t =
    if_form w (is_operand a && (is_operand b && is_operand c)) t (chosen_value a.value b.value c.value)

abbrev pub folded_binary : Widths → BinaryOp → (a b : Folded) → CType → Folded
folded_binary w o a b t = if_form w (is_operand a && is_operand b) t (binary_value w o a.ctype a.value b.value)

abbrev pub folded_unary : Widths → UnaryOp → Folded → CType → Folded
folded_unary w o a t = if_form w (is_constant_operator o && is_operand a) t (unary_value w o a.ctype a.value)

abbrev pub fold_what : Widths → What-F (CType → Folded) Folded → CType → Folded
fold_what w (What-F.Cond a b c) t = folded_choice w a b c t
fold_what w (What-F.Binary o a b) t = folded_binary w o a b t
fold_what w (What-F.Cast a) t = folded_conversion w a t
fold_what w (What-F.Unary o a) t = folded_unary w o a t
fold_what w (What-F.SizeofExpr a n) t = constant_of w t (Some n)
fold_what w (What-F.SizeofType n) t = constant_of w t (Some n)
fold_what w (What-F.Int n) t = constant_of w t (Some n)
fold_what w (What-F.Char c) t = constant_of w t (Some (wrapped 32 c))
fold_what w (What-F.Convert a) t = folded_conversion w a t
fold_what w _ t = no_constant t

abbrev pub folded : Widths → TExpr → Folded
folded w = fold-TExpr (CType → Folded) Folded (fold_what w) (λ e. e.what e.ctype)

-- the bits of an integer constant expression, none exactly where an expression is none
abbrev pub value_of : Folded → Option ℕ
value_of e = if is_operand e then e.value else None

abbrev pub constant_bits : Widths → TExpr → Option ℕ
constant_bits w e = value_of (folded w e)

-- its number
abbrev pub number_if : Widths → CType → Option ℕ → Option ℤ
number_if w t None = None
number_if w t (Some n) = Some (number w t n)

abbrev pub constant : Widths → TExpr → Option ℤ
constant w e = number_if w (out-TExpr e).ctype (constant_bits w e)

abbrev pub is_zero : Option ℕ → Bool
is_zero None = false
is_zero (Some n) = nat_eq n 0

-- whether an expression is an integer constant of value 0, which converts to any pointer
abbrev pub is_null_integer : Widths → TExpr → Bool
is_null_integer w e = is_zero (constant_bits w e)

abbrev pub form_of : TExpr → What-F What TExpr
form_of e = out-What (out-TExpr e).what

abbrev pub casts_null : Widths → CType → What-F What TExpr → Bool
casts_null w t (What-F.Cast e) = is_void_pointer t && is_null_integer w e
casts_null w t _ = false

-- a null pointer constant: such an integer, or one cast to `void *` (C11 6.3.2.3, 3)
abbrev pub is_null_constant : Widths → TExpr → Bool
is_null_constant w e = is_null_integer w e || casts_null w (out-TExpr e).ctype (form_of e)

-- Lvalues: what names an object. A field of what is no lvalue is none.
abbrev pub lvalue_what : What-F (CType → Bool) Bool → CType → Bool
lvalue_what (What-F.Unary sign.Deref a) t = not (is_function t)
lvalue_what (What-F.Index a b) t = true
lvalue_what (What-F.Field a s n arrow) t = arrow || a
lvalue_what (What-F.Param n) t = true
lvalue_what (What-F.Local n) t = true
lvalue_what (What-F.Global n) t = true
lvalue_what (What-F.Str n) t = true
lvalue_what (What-F.TempPlace n) t = true
lvalue_what _ t = false

abbrev pub is_lvalue : TExpr → Bool
is_lvalue = fold-TExpr (CType → Bool) Bool lvalue_what (λ e. e.what e.ctype)

-- The type of an integer constant: the first kind of its list that holds it. Decimal constants without `u` have
-- signed kinds alone, those with `u` unsigned ones alone; `l` leaves out the kinds below `long`, `ll` those
-- below `long long`.
abbrev pub holds : Widths → ℕ → IntKind → Bool
holds w n k = nat_lt n (if is_signed k then 2 ^ (kind_bits w k - 1) else 2 ^ kind_bits w k)

abbrev pub constant_kinds : List IntKind
constant_kinds = kind.Int ∷ kind.UInt ∷ kind.Long ∷ kind.ULong ∷ kind.LongLong ∷ kind.ULongLong ∷ []

-- whether a kind stands in the list of a constant; `longs` is the number of its `l`
abbrev pub is_listed : (decimal unsigned : Bool) (longs : ℕ) → IntKind → Bool
is_listed decimal unsigned longs k =
    nat_lt longs (rank k) && (if unsigned then not (is_signed k) else (is_signed k || not decimal))

abbrev pub constant_kind : Widths → (decimal unsigned : Bool) (longs n : ℕ) → Option IntKind
constant_kind w decimal unsigned longs n =
    find (λ k. is_listed decimal unsigned longs k && holds w n k) constant_kinds
