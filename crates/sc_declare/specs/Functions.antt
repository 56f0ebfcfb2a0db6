-- Functions that are declared (C11 6.7.6.3, 6.2.7): which values they take and give, when one may be declared
-- again, and when it is local to its file.
use Rattle.std.specs.Prelude.{ℕ, Bool, true, false, not, ◌&&◌, ◌||◌, Option, Some, None, List, [], ◌∷◌, ◌++◌, length, ◌==◌}
use Rattle.sc_base.specs.declared.pos.Pos.{Pos}
use Rattle.sc_base.specs.declared.pos.NameId.{NameId}
use Rattle.sc_base.specs.declared.skip.Unsupported.TheVariants as u
use Rattle.sc_base.specs.declared.skip.IllTyped.TheVariants as i
use Rattle.sc_tree.specs.declared.ctype.CType.{CType, CType-F, out-CType}
use Rattle.sc_tree.specs.declared.ctype.Signature.{Signature, out-Signature}
use Rattle.sc_tree.specs.declared.ctype.OpaqueKind.{OpaqueKind}
use Rattle.sc_typed.specs.Types.{is_aggregate, is_void, compatible, composite}
use Rattle.sc_rules.specs.declared.walk.Entity.{Entity}
use Rattle.sc_rules.specs.declared.walk.Entity.TheVariants as entity
use Rattle.sc_rules.specs.Faults.{unsupported_at, ill_typed_at}
use Rattle.sc_rules.specs.Walks.{Check, ◌>>=◌, done, name_here}
use Rattle.sc_rules.specs.Conversions.{opaque_kind, opaque_fault}
use Rattle.sc_declare.specs.declared.functions.Parameter.{Parameter}
use Rattle.sc_names.specs.Notes.{note_unless}
use Rattle.sc_names.specs.Names.{declare_or}

-- Values of functions: a parameter or result of an opaque type, or a struct, is not taken, and no parameter is
-- `void`.

abbrev pub no_opaque : Pos → Option OpaqueKind → Check (Unit {0})
no_opaque at None = done tt
no_opaque at (Some k) = note_unless false (unsupported_at (opaque_fault k) at)

abbrev pub value_at : Pos → CType → Check (Unit {0})
value_at at t = do
  _ ← no_opaque at (opaque_kind t)
  note_unless (not (is_aggregate t)) (unsupported_at u.Struct at)

abbrev pub parameter_at : Pos → CType → Check (Unit {0})
parameter_at at t = do
  _ ← value_at at t
  note_unless (not (is_void t)) (ill_typed_at i.Incomplete at)

abbrev pub parameter_if : Pos → Option CType → Check (Unit {0})
parameter_if at None = done tt
parameter_if at (Some t) = parameter_at at t

-- those that a declarator wrote stand at their places
abbrev pub own_parameters : List Parameter → Check (Unit {0})
own_parameters [] = done tt
own_parameters (p ∷ ps) = do
  _ ← parameter_if p.pos p.ctype
  own_parameters ps

-- those that a typedef wrote stand at the name declared
abbrev pub typedef_parameters : Pos → List CType → Check (Unit {0})
typedef_parameters at [] = done tt
typedef_parameters at (t ∷ ts) = do
  _ ← parameter_at at t
  typedef_parameters at ts

-- the signature of a function type
abbrev pub signature_layer : CType-F CType Signature → Option Signature
signature_layer (CType-F.Func s) = Some s
signature_layer _ = None

abbrev pub signature_of : CType → Option Signature
signature_of t = signature_layer (out-CType t)

abbrev pub signature_if : Option CType → Option Signature
signature_if None = None
signature_if (Some t) = signature_of t

abbrev pub params_if : Option Signature → Option (List CType)
params_if None = None
params_if (Some s) = (out-Signature s).params

abbrev pub typedef_parameters_if : Pos → Option (List CType) → Check (Unit {0})
typedef_parameters_if at None = done tt
typedef_parameters_if at (Some ts) = typedef_parameters at ts

abbrev pub parameters_at : Pos → Option (List Parameter) → Option Signature → Check (Unit {0})
parameters_at at (Some ps) s = own_parameters ps
parameters_at at None s = typedef_parameters_if at (params_if s)

abbrev pub result_at : Pos → Option Signature → Check (Unit {0})
result_at at None = done tt
result_at at (Some s) = value_at at (out-Signature s).result

-- The faults of a function that is declared; its name stands at `at`. The parameters are those of its declarator,
-- none where a typedef wrote them.
abbrev pub signature_at : Pos → Option CType → Option (List Parameter) → Check (Unit {0})
signature_at at t ps = do
  _ ← result_at at (signature_if t)
  parameters_at at ps (signature_if t)

-- A function may be declared again with a compatible type; a body with empty brackets takes no arguments.

abbrev pub is_empty_list : Option (List CType) → Bool
is_empty_list None = true
is_empty_list (Some ts) = length ts == 0

abbrev pub no_params : CType → Bool
no_params t = is_empty_list (params_if (signature_of t))

abbrev pub functions_agree : (body : Bool) → CType → CType → Bool
functions_agree body t s = compatible t s && (not body || (no_params t && no_params s))

abbrev pub function_again : Bool → (old new : CType) → (brackets : Bool) → Option Entity
function_again true old new brackets = Some (entity.Function (composite old new) brackets)
function_again false old new brackets = None

-- what the name of a function means from now on; none where it cannot stand beside what the name is already
abbrev pub function_beside : Option Entity → CType → (brackets : Bool) → Option Entity
function_beside None t brackets = Some (entity.Function t brackets)
function_beside (Some (entity.Function old seen)) t brackets =
    function_again (functions_agree (brackets || seen) old t) old t (brackets || seen)
function_beside (Some _) t brackets = None

-- a function is declared in the innermost scope; with the flag by a body with empty brackets
abbrev pub declare_function : NameId → Pos → CType → (brackets : Bool) → Check (Unit {0})
declare_function name at t brackets = name_here name >>= λ old. declare_or (function_beside old t brackets) name at

-- if its type is known
abbrev pub declare_function_if : NameId → Pos → Option CType → (brackets : Bool) → Check (Unit {0})
declare_function_if name at None brackets = done tt
declare_function_if name at (Some t) brackets = declare_function name at t brackets

-- it is local to the file
abbrev pub local_function : (file : ℕ) → NameId → Bool → Check (Unit {0})
local_function file name true w = (tt, record w { local_functions = w.local_functions ++ (file, name) ∷ [] })
local_function file name false w = (tt, w)
