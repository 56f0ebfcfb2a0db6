-- What a declarator declares, where it has no initialiser (C11 6.7): a function, a typedef name, a variable in a
-- body with `extern`.
use Rattle.std.specs.Prelude.{ℕ, Bool, false, not, Option, Some, None, List}
use Rattle.sc_base.specs.declared.pos.Pos.{Pos}
use Rattle.sc_base.specs.declared.pos.NameId.{NameId}
use Rattle.sc_base.specs.declared.skip.Unsupported.TheVariants as u
use Rattle.sc_tree.specs.declared.ctype.CType.{CType}
use Rattle.sc_typed.specs.declared.stmt.Declared.{Declared}
use Rattle.sc_typed.specs.declared.stmt.Declared.TheVariants as declares
use Rattle.sc_typed.specs.declared.stmt.TDeclarator.{TDeclarator}
use Rattle.sc_rules.specs.declared.walk.Entity.TheVariants as entity
use Rattle.sc_rules.specs.Faults.{unsupported_at}
use Rattle.sc_rules.specs.Walks.{Check, ◌>>=◌, done}
use Rattle.sc_declare.specs.declared.functions.Parameter.{Parameter}
use Rattle.sc_declare.specs.declared.linkage.Linked.{Linked}
use Rattle.sc_names.specs.Notes.{note_unless}
use Rattle.sc_names.specs.Names.{new_here, declare_if}
use Rattle.sc_declare.specs.Functions.{signature_at, declare_function_if, local_function}
use Rattle.sc_declare.specs.Linkage.{declare_global}

abbrev pub without_init : NameId → Pos → Declared → TDeclarator
without_init name at d = record { name = name; pos = at; declared = d; init = None }

-- a function that is declared without a body; with the flag it is local to that file
abbrev pub function_declared : (file : ℕ) → (is_local : Bool) → NameId → Pos → Option CType → Option (List Parameter) → Check TDeclarator
function_declared file is_local name at t ps = do
  _ ← signature_at at t ps
  _ ← declare_function_if name at t false
  _ ← local_function file name is_local
  done (without_init name at declares.Function)

-- a typedef name
abbrev pub declare_typedef : NameId → Pos → Option CType → Check (Unit {0})
declare_typedef name at None = done tt
declare_typedef name at (Some t) = new_here name at >>= λ new. declare_if new name (entity.Typedef t)

abbrev pub typedef_declared : NameId → Pos → Option CType → Check TDeclarator
typedef_declared name at t = do
  _ ← declare_typedef name at t
  done (without_init name at declares.Function)

-- its number; 0 where it has no type
abbrev pub declare_global_if : Option Linked → Check ℕ
declare_global_if None = done 0
declare_global_if (Some d) = declare_global d

-- a variable in a body with `extern`, which does not stand beside `static`
abbrev pub extern_declared : NameId → Pos → (has_static : Bool) → Option Linked → Check TDeclarator
extern_declared name at has_static d = do
  _ ← note_unless (not has_static) (unsupported_at u.Static at)
  n ← declare_global_if d
  done (without_init name at (declares.Global n))
