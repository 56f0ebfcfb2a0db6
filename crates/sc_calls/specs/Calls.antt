-- Calls (C11 6.5.2.2): how many arguments a function takes, and what becomes of each.
use Rattle.std.specs.Prelude.{◌++◌, ℕ, nat_eq, nat_lt, Bool, true, false, ◌&&◌, ◌||◌, Option, Some, None, List, [], ◌∷◌, length, if◌then◌else◌}
use Rattle.sc_base.specs.declared.pos.Pos.{Pos}
use Rattle.sc_base.specs.declared.pos.NameId.{NameId}
use Rattle.sc_base.specs.declared.skip.Unsupported.TheVariants as u
use Rattle.sc_base.specs.declared.skip.IllTyped.TheVariants as i
use Rattle.sc_tree.specs.declared.ctype.CType.{CType, CType-F, out-CType}
use Rattle.sc_tree.specs.declared.ctype.CType.TheVariants as ty
use Rattle.sc_tree.specs.declared.ctype.Signature.{Signature, out-Signature, roll-Signature}
use Rattle.sc_tree.specs.declared.ctype.IntKind.TheVariants as kind
use Rattle.sc_tree.specs.declared.ctype.Widths.{Widths}
use Rattle.sc_tree.specs.declared.expr.Place.{Place}
use Rattle.sc_typed.specs.declared.expr.TExpr.{TExpr, out-TExpr}
use Rattle.sc_typed.specs.declared.expr.What.{What, What-F, out-What}
use Rattle.sc_typed.specs.declared.expr.What.TheVariants as what
use Rattle.sc_typed.specs.Types.{is_integer, is_pointer, is_aggregate}
use Rattle.sc_typed.specs.Constants.{is_null_constant}
use Rattle.sc_rules.specs.declared.walk.Builtin.{Builtin}
use Rattle.sc_rules.specs.declared.walk.Builtin.TheVariants as b
use Rattle.sc_rules.specs.declared.walk.Given.{Given}
use Rattle.sc_rules.specs.declared.walk.Given.TheVariants as takes
use Rattle.sc_rules.specs.declared.walk.Entity.{Entity}
use Rattle.sc_rules.specs.declared.walk.Entity.TheVariants as entity
use Rattle.sc_rules.specs.Walks.{Check, ◌>>=◌, done, unsupported, ill_typed}
use Rattle.sc_rules.specs.Conversions.{node, type_of, place_of, value, promote, convert, converted}

-- a function with that result of whose arguments nothing is said
abbrev pub with_result : CType → Signature
with_result t = roll-Signature (record { result = t; params = None; variadic = false })

abbrev pub unknown_function : CType → CType
unknown_function t = ty.Func (with_result t)

-- the signature of the function that is called: of a function, or of what a pointer points to
abbrev pub function_layer : CType-F CType Signature → Option Signature
function_layer (CType-F.Func s) = Some s
function_layer _ = None

abbrev pub function_signature : CType → Option Signature
function_signature t = function_layer (out-CType t)

abbrev pub called_layer : CType-F CType Signature → Option Signature
called_layer (CType-F.Func s) = Some s
called_layer (CType-F.Ptr t) = function_signature t
called_layer _ = None

abbrev pub called_signature : CType → Option Signature
called_signature t = called_layer (out-CType t)

abbrev pub result_of : Signature → CType
result_of s = (out-Signature s).result

-- whether a function takes that many arguments
abbrev pub takes_count : Option (List CType) → (variadic : Bool) → ℕ → Bool
takes_count None v n = true
takes_count (Some ts) v n = nat_eq n (length ts) || (v && nat_lt (length ts) n)

abbrev pub takes_many : Signature → ℕ → Bool
takes_many s n = takes_count (out-Signature s).params (out-Signature s).variadic n

-- an argument for which no parameter stands: the default argument promotions
abbrev pub promoted_argument : Pos → TExpr → Check (Option TExpr)
promoted_argument at a =
    if is_integer (type_of a)
    then done (Some (promote a))
    else (if is_pointer (type_of a) then done (Some a) else ill_typed i.Operand at)

abbrev pub argument_to : Widths → Pos → Option CType → TExpr → Check (Option TExpr)
argument_to w at None a = promoted_argument at a
argument_to w at (Some t) a = converted w i.Operand at t a

abbrev pub argument_unless : Widths → Pos → Option CType → TExpr → Check (Option TExpr)
argument_unless w at t a =
    if is_aggregate (type_of a) then unsupported u.Struct (place_of a).first else argument_to w at t a

-- an argument, converted as the parameter asks where there is one; `at` is the place of the call
abbrev pub argument : Widths → Pos → Option CType → Option TExpr → Check (Option TExpr)
argument w at t None = done None
argument w at t (Some a) = argument_unless w at t a

-- the parameter in front, and those behind it
abbrev pub front : List CType → Option CType
front [] = None
front (t ∷ ts) = Some t

abbrev pub behind : List CType → List CType
behind [] = []
behind (t ∷ ts) = ts

-- one argument before the others; nothing where one is missing
abbrev pub with_first : Option TExpr → Option (List TExpr) → Option (List TExpr)
with_first None r = None
with_first (Some a) None = None
with_first (Some a) (Some as') = Some (a ∷ as')

-- the arguments for these parameters; each that has a type is judged, whatever faults others have
abbrev pub arguments : Widths → Pos → List CType → List (Option TExpr) → Check (Option (List TExpr))
arguments w at ts [] = done (Some [])
arguments w at ts (a ∷ as') = do
  x ← argument w at (front ts) a
  r ← arguments w at (behind ts) as'
  done (with_first x r)

-- the arguments so far and one more; nothing where one is missing
abbrev pub with_last : Option (List TExpr) → Option TExpr → Option (List TExpr)
with_last None x = None
with_last (Some xs) None = None
with_last (Some xs) (Some x) = Some (xs ++ x ∷ [])

abbrev pub params_if : Option (List CType) → List CType
params_if None = []
params_if (Some ts) = ts

abbrev pub params_of : Signature → List CType
params_of s = params_if (out-Signature s).params

abbrev pub finished_call : Place → CType → TExpr → Option (List TExpr) → Option TExpr
finished_call p t f None = None
finished_call p t f (Some as') = Some (node (what.Call f as') t p)

-- a struct or union as a result is not taken
abbrev pub call_with : Place → CType → TExpr → Option (List TExpr) → Check (Option TExpr)
call_with p t f as' = if is_aggregate t then unsupported u.Struct p.first else done (finished_call p t f as')

abbrev pub call_taken : Widths → Signature → Place → TExpr → List (Option TExpr) → Check (Option TExpr)
call_taken w s p f as' = arguments w p.first (params_of s) as' >>= λ r. call_with p (result_of s) f r

-- a call of what has that signature; none is that of no function
abbrev pub call_as : Widths → Option Signature → Place → TExpr → List (Option TExpr) → Check (Option TExpr)
call_as w None p f as' = ill_typed i.Call p.first
call_as w (Some s) p f as' = if takes_many s (length as') then call_taken w s p f as' else ill_typed i.Call p.first

abbrev pub call : Widths → Place → Option TExpr → List (Option TExpr) → Check (Option TExpr)
call w p None as' = done None
call w p (Some f) as' = call_as w (called_signature (type_of f)) p f as'

-- What is called: a function stays what it is, anything else is a value.
abbrev pub function_name_layer : What-F What TExpr → Bool
function_name_layer (What-F.Function name body) = true
function_name_layer _ = false

abbrev pub is_function_name : TExpr → Bool
is_function_name e = function_name_layer (out-What (out-TExpr e).what)

abbrev pub callee : TExpr → Check (Option TExpr)
callee e = if is_function_name e then done (Some e) else value e

-- Built-in functions.

abbrev pub given_of : Builtin → Given
given_of (b.Nothing g) = g
given_of (b.Int g) = g
given_of (b.Long g) = g
given_of (b.Object g) = g
given_of b.Refused = takes.Any

abbrev pub builtin_result : Builtin → CType
builtin_result (b.Nothing g) = ty.Void
builtin_result (b.Int g) = ty.Int kind.Int
builtin_result (b.Long g) = ty.Int kind.Long
builtin_result (b.Object g) = ty.Ptr ty.Void
builtin_result b.Refused = ty.Void

abbrev pub has_count : Given → ℕ → Bool
has_count takes.Any n = true
has_count takes.Pointer n = nat_lt 0 n
has_count takes.Two n = nat_eq n 2

-- a prototype that is in sight limits and converts the arguments too
abbrev pub prototype : Option Entity → Option Signature
prototype (Some (entity.Function t brackets)) = called_signature t
prototype _ = None

abbrev pub signature_or : CType → Option Signature → Signature
signature_or result None = with_result result
signature_or result (Some s) = s

abbrev pub two_longs : List CType
two_longs = ty.Int kind.Long ∷ ty.Int kind.Long ∷ []

abbrev pub builtin_params : Given → Signature → List CType
builtin_params takes.Two s = two_longs
builtin_params _ s = params_of s

-- the first argument is a pointer, or a null constant that becomes one
abbrev pub pointer_argument : Widths → Pos → TExpr → Check (Option TExpr)
pointer_argument w at a =
    if is_pointer (type_of a)
    then done (Some a)
    else (if is_null_constant w a then done (Some (convert a (ty.Ptr ty.Void))) else ill_typed i.Operand at)

abbrev pub in_front : Option TExpr → List (Option TExpr) → Option (List (Option TExpr))
in_front None as' = None
in_front (Some x) as' = Some (Some x ∷ as')

abbrev pub first_pointer : Widths → Pos → List (Option TExpr) → Check (Option (List (Option TExpr)))
first_pointer w at [] = done (Some [])
first_pointer w at (None ∷ as') = done (Some (None ∷ as'))
first_pointer w at (Some a ∷ as') = pointer_argument w at a >>= λ x. done (in_front x as')

abbrev pub builtin_arguments : Widths → Given → Pos → List (Option TExpr) → Check (Option (List (Option TExpr)))
builtin_arguments w takes.Pointer at as' = first_pointer w at as'
builtin_arguments w _ at as' = done (Some as')

-- the built-in function as what is called, at its name's place
abbrev pub builtin_callee : NameId → Builtin → Place → TExpr
builtin_callee name b p = node (what.Function name None) (unknown_function (builtin_result b)) p

-- An operation, a try and a release act on a pointer, which a prototype in sight may have made another value: that is
-- judged behind the conversions, at the first token of the argument.

-- the place of a first argument that is no pointer
abbrev pub no_pointer : List TExpr → Option Pos
no_pointer [] = None
no_pointer (a ∷ as') = if is_pointer (type_of a) then None else Some (place_of a).first

abbrev pub passed_unless : Option Pos → List TExpr → Check (Option (List TExpr))
passed_unless None as' = done (Some as')
passed_unless (Some at) as' = ill_typed i.Operand at

abbrev pub passed : Given → Option (List TExpr) → Check (Option (List TExpr))
passed g None = done None
passed takes.Pointer (Some as') = passed_unless (no_pointer as') as'
passed _ (Some as') = done (Some as')

abbrev pub builtin_given : Widths → NameId → Builtin → Signature → (name_place call_place : Place) → Option (List (Option TExpr)) → Check (Option TExpr)
builtin_given w name b s q p None = done None
builtin_given w name b s q p (Some as') = do
  r ← arguments w p.first (builtin_params (given_of b) s) as'
  taken ← passed (given_of b) r
  done (finished_call p (builtin_result b) (builtin_callee name b q) taken)

abbrev pub builtin_as : Widths → NameId → Builtin → Signature → (name_place call_place : Place) → List (Option TExpr) → Check (Option TExpr)
builtin_as w name b s q p as' =
    if has_count (given_of b) (length as') && takes_many s (length as')
    then (builtin_arguments w (given_of b) p.first as' >>= λ r. builtin_given w name b s q p r)
    else ill_typed i.Call p.first

-- a call of a built-in function, where a prototype of the name is in sight or none
abbrev pub builtin_call : Widths → NameId → Builtin → (visible : Option Signature) → (name_place call_place : Place) → List (Option TExpr) → Check (Option TExpr)
builtin_call w name b.Refused visible q p as' = unsupported u.Call q.token
builtin_call w name b visible q p as' = builtin_as w name b (signature_or (builtin_result b) visible) q p as'
