-- What declarators make of types (C11 6.7.6): pointers, arrays, functions and their parameters.
use Rattle.std.specs.Prelude.{ℕ, ◌^◌, nat_lt, Bool, ◌||◌, Option, Some, None, List, [], ◌∷◌, ℤ, pos, negsuc, if◌then◌else◌}
use Rattle.sc_base.specs.declared.pos.Pos.{Pos}
use Rattle.sc_base.specs.declared.pos.NameId.{NameId}
use Rattle.sc_base.specs.declared.skip.Unsupported.TheVariants as u
use Rattle.sc_base.specs.declared.skip.IllTyped.TheVariants as i
use Rattle.sc_tree.specs.declared.ctype.CType.{CType}
use Rattle.sc_tree.specs.declared.ctype.CType.TheVariants as ty
use Rattle.sc_tree.specs.declared.ctype.Signature.{roll-Signature}
use Rattle.sc_tree.specs.declared.ctype.Widths.{Widths}
use Rattle.sc_typed.specs.declared.expr.TExpr.{TExpr}
use Rattle.sc_typed.specs.Types.{is_function, is_array}
use Rattle.sc_typed.specs.Constants.{constant}
use Rattle.sc_rules.specs.declared.walk.Entity.TheVariants as entity
use Rattle.sc_rules.specs.Walks.{Check, ◌>>=◌, done, unsupported, ill_typed}
use Rattle.sc_rules.specs.Conversions.{place_of, decayed_type}
use Rattle.sc_names.specs.Names.{new_here, declare_if}
use Rattle.sc_declare.specs.declared.functions.Parameter.{Parameter}

-- the number of a length or a width that is a constant (C11 6.7.2.1, 6.7.6.2)
abbrev pub in_range : ℤ → Option ℕ
in_range (pos n) = if nat_lt n (2 ^ 32) then Some n else None
in_range (negsuc n) = None

abbrev pub ranged : Option ℕ → Pos → Check (Option (Option ℕ))
ranged None at = ill_typed i.Constant at
ranged (Some n) at = done (Some (Some n))

abbrev pub length_number : Option ℤ → (at : Pos) → TExpr → Check (Option (Option ℕ))
length_number None at e = unsupported u.Vla at
length_number (Some z) at e = ranged (in_range z) (place_of e).token

-- the length of an array, where one is written
abbrev pub length_of : Widths → (at : Pos) → TExpr → Check (Option (Option ℕ))
length_of w at e = length_number (constant w e) at e

-- no array of functions (C11 6.7.6.2), and no function that gives a function or an array (C11 6.7.6.3)
abbrev pub no_function : Pos → CType → Check (Option CType)
no_function at t = if is_function t then ill_typed i.Incomplete at else done (Some t)

abbrev pub no_array : Pos → CType → Check (Option CType)
no_array at t = if is_function t || is_array t then ill_typed i.Incomplete at else done (Some t)

abbrev pub pointer_to : Option CType → Option CType
pointer_to None = None
pointer_to (Some t) = Some (ty.Ptr t)

abbrev pub array_of : Option CType → Option (Option ℕ) → Option CType
array_of None n = None
array_of (Some t) None = None
array_of (Some t) (Some n) = Some (ty.Array t n)

-- Parameters (C11 6.7.6.3): an array or a function becomes a pointer.
abbrev pub adjusted_to : Option CType → CType → CType
adjusted_to None t = t
adjusted_to (Some u) t = u

abbrev pub adjusted : Option CType → Option CType
adjusted None = None
adjusted (Some t) = Some (adjusted_to (decayed_type t) t)

abbrev pub declare_param : ℕ → Bool → NameId → Option CType → Check (Unit {0})
declare_param k new name None = done tt
declare_param k new name (Some t) = declare_if new name (entity.Param k t)

abbrev pub parameter_of : ℕ → Option (NameId × Pos) → Pos → Option CType → Check Parameter
parameter_of k None first t = done (record { name = None; pos = first; ctype = t })
parameter_of k (Some (name, at)) first t = do
  new ← new_here name at
  _ ← declare_param k new name t
  done (record { name = Some name; pos = at; ctype = t })

-- the types of all parameters, none where one is missing
abbrev pub type_in_front : Option CType → Option (List CType) → Option (List CType)
type_in_front None ts = None
type_in_front (Some t) None = None
type_in_front (Some t) (Some ts) = Some (t ∷ ts)

abbrev pub types_of : List Parameter → Option (List CType)
types_of [] = Some []
types_of (p ∷ ps) = type_in_front p.ctype (types_of ps)

abbrev pub function_with : (brackets variadic : Bool) → Option CType → Option (List CType) → Option CType
function_with brackets variadic None ts = None
function_with brackets variadic (Some t) None = None
function_with brackets variadic (Some t) (Some ts) =
    Some (ty.Func (roll-Signature (record { result = t; params = if brackets then None else Some ts; variadic = variadic })))
