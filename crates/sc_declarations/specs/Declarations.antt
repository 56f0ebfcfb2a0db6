-- Declarations (C11 6.7): what a declarator declares, at file scope and in a body.
use Rattle.std.specs.Prelude.{ℕ, Bool, true, false, not, ◌&&◌, Option, Some, None, List, [], ◌∷◌, if◌then◌else◌}
use Rattle.sc_base.specs.declared.pos.Pos.{Pos}
use Rattle.sc_base.specs.declared.pos.NameId.{NameId}
use Rattle.sc_base.specs.declared.skip.Unsupported.TheVariants as u
use Rattle.sc_tree.specs.declared.ctype.CType.{CType}
use Rattle.sc_tree.specs.declared.expr.Storage.{Storage}
use Rattle.sc_tree.specs.declared.expr.Specs.{out-Specs}
use Rattle.sc_tree.specs.declared.decl.Decl.{Decl}
use Rattle.sc_tree.specs.declared.decl.InitDeclarator.{InitDeclarator}
use Rattle.sc_tree.specs.declared.decl.Init.{Init}
use Rattle.sc_typed.specs.declared.stmt.Declared.{Declared}
use Rattle.sc_typed.specs.declared.stmt.Declared.TheVariants as declares
use Rattle.sc_typed.specs.declared.stmt.TDeclarator.{TDeclarator}
use Rattle.sc_typed.specs.declared.stmt.TInit.{TInit}
use Rattle.sc_rules.specs.Faults.{unsupported_at}
use Rattle.sc_rules.specs.Walks.{Check, ◌>>=◌, done}
use Rattle.sc_unary.specs.Members.{is_there}
use Rattle.sc_names.specs.Notes.{note_unless}
use Rattle.sc_names.specs.Structs.{size_now}
use Rattle.sc_declare.specs.declared.functions.Parameter.{Parameter}
use Rattle.sc_declare.specs.declared.linkage.Linked.{Linked}
use Rattle.sc_declare.specs.Storage.{has_typedef, has_extern, has_static, has_local}
use Rattle.sc_declare.specs.Locals.{declare_local, lengthen}
use Rattle.sc_declare.specs.Declarators.{function_declared, typedef_declared, declare_global_if, extern_declared}
use Rattle.sc_fill.specs.Initialisers.{elements_set}
use Rattle.sc_files.specs.Variables.{linked_in, object_if, is_function_of}
use Rattle.sc_typing.specs.Here.{Here}
use Rattle.sc_typing.specs.declared.shapes.Own.{Own}
use Rattle.sc_typing.specs.declared.shapes.Shape.{Shape}
use Rattle.sc_typing.specs.Shapes.{Declaring}
use Rattle.sc_typing.specs.Typing.{declaring, naming}
use Rattle.sc_declarations.specs.Initialisers.{initialiser}
use Rattle.sc_lengths.specs.Lengths.{completed_type}

-- what stands for the name of a declarator that has none; in a declaration each has one
abbrev pub no_name : NameId × Pos
no_name = (record { at = 0 }, record { file = 0; line = 0; col = 0 })

abbrev pub name_of : Option (NameId × Pos) → NameId × Pos
name_of None = no_name
name_of (Some n) = n

-- the parameters that the declarator wrote
abbrev pub params_if : Option Own → Option (List Parameter)
params_if None = None
params_if (Some own) = Some own.params

-- a type that has a size
abbrev pub sized : CType → Option ℕ → Option CType
sized t None = None
sized t (Some n) = Some t

abbrev pub declarator_of : NameId → Pos → Declared → Option TInit → TDeclarator
declarator_of name at d x = record { name = name; pos = at; declared = d; init = x }

-- specifiers without declarators
abbrev pub is_alone : List InitDeclarator → Bool
is_alone [] = true
is_alone (d ∷ ds) = false

module _ (here : Here) where
  -- a declaration of a variable with linkage; its global has the type that all files give it, once that is known
  abbrev pub type_over_all : NameId → Option CType
  type_over_all name = if here.settled then here.global_type name.at else None

  abbrev pub linked_if : NameId → Pos → (is_static : Bool) → Option CType → Option Linked
  linked_if name at is_static t = linked_in here.file (here.is_local name.at) (type_over_all name) name at is_static t

  -- Locals.

  abbrev pub written_initialiser : ℕ → NameId → Pos → CType → Init → Check (Option TInit)
  written_initialiser n name at t x = do
    m ← size_now here.widths t
    r ← initialiser here at (sized t m) x
    _ ← lengthen here.widths n name at (elements_set r) t
    done r

  abbrev pub local_initialiser : ℕ → NameId → Pos → CType → Option Init → Check (Option TInit)
  local_initialiser n name at t None = done None
  local_initialiser n name at t (Some x) = written_initialiser n name at t x

  abbrev pub faulty_initialiser : Pos → Option Init → Check (Option TInit)
  faulty_initialiser at None = done None
  faulty_initialiser at (Some x) = initialiser here at None x

  -- a variable of a body without linkage; a static one is not taken
  abbrev pub typed_local : NameId → Pos → Option Init → CType → Check TDeclarator
  typed_local name at x t = do
    n ← declare_local here.widths name at t
    r ← local_initialiser n name at t x
    done (declarator_of name at (declares.Local n) r)

  abbrev pub untyped_local : NameId → Pos → Option Init → Check TDeclarator
  untyped_local name at x = do
    r ← faulty_initialiser at x
    done (declarator_of name at (declares.Local 0) r)

  abbrev pub local_if : NameId → Pos → Option Init → Option CType → Check TDeclarator
  local_if name at x None = untyped_local name at x
  local_if name at x (Some t) = typed_local name at x t

  abbrev pub local_declared : List Storage → NameId → Pos → Option Init → Option CType → Check TDeclarator
  local_declared ss name at x t = do
    _ ← note_unless (not (has_static ss)) (unsupported_at u.Static at)
    local_if name at x t

  -- Declarators.

  abbrev pub function_named : (is_local : Bool) → NameId → Pos → Option CType → Option Own → Check TDeclarator
  function_named is_local name at t own = function_declared here.file is_local name at t (params_if own)

  abbrev pub completed_if : Option Init → Option CType → Check (Option CType)
  completed_if x None = done None
  completed_if x (Some t) = completed_type here x t >>= λ s. done (Some s)

  -- a variable at file scope: one without `extern` is an object
  abbrev pub file_variable : List Storage → NameId → Pos → Option Init → Option CType → Check TDeclarator
  file_variable ss name at x t = do
    s ← completed_if x t
    _ ← object_if here.widths (not (has_extern ss)) at s
    n ← declare_global_if (linked_if name at (has_static ss) s)
    done (declarator_of name at (declares.Global n) None)

  -- a variable in a body
  abbrev pub body_variable : List Storage → NameId → Pos → Option Init → Option CType → Check TDeclarator
  body_variable ss name at x t =
      if has_extern ss
      then extern_declared name at (has_static ss) (linked_if name at false t)
      else local_declared ss name at x t

  abbrev pub variable_declared : (at_file : Bool) → List Storage → NameId → Pos → Option Init → Option CType
      → Check TDeclarator
  variable_declared at_file ss name at x t =
      if at_file
      then file_variable ss name at x t
      else body_variable ss name at x t

  abbrev pub declared_as : (at_file : Bool) → List Storage → NameId → Pos → Option Init → Shape → Check TDeclarator
  declared_as at_file ss name at x s =
      if at_file && has_typedef ss
      then typedef_declared name at s.ctype
      else (if is_function_of s.ctype (is_there s.own)
      then function_named (at_file && has_local ss) name at s.ctype s.own
      else variable_declared at_file ss name at x s.ctype)

  abbrev pub declarator_named : (at_file : Bool) → List Storage → Option CType → Declaring → Option Init → NameId × Pos
      → Check TDeclarator
  declarator_named at_file ss t d x (name, at) = do
    s ← d.run at t
    declared_as at_file ss name at x s

  abbrev pub declarator : (at_file : Bool) → List Storage → Option CType → InitDeclarator → Check TDeclarator
  declarator at_file ss t d =
      declarator_named at_file ss t (declaring here d.declarator) d.init (name_of (declaring here d.declarator).name)

  abbrev pub declarators : (at_file : Bool) → List Storage → Option CType → List InitDeclarator
      → Check (List TDeclarator)
  declarators at_file ss t [] = done []
  declarators at_file ss t (d ∷ ds) = do
    x ← declarator at_file ss t d
    xs ← declarators at_file ss t ds
    done (x ∷ xs)

  -- the type that the specifiers of a declaration name
  abbrev pub type_named : Decl → Check (Option CType)
  type_named d = naming here d.specs (is_alone d.parts)

  -- a declaration
  abbrev pub declaration : (at_file : Bool) → Decl → Check (List TDeclarator)
  declaration at_file d = do
    t ← type_named d
    declarators at_file (out-Specs d.specs).storage t d.parts
