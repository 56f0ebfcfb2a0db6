-- Variables with linkage (C11 6.2.2): one global for all declarations of a name, or of a name in a file where it
-- is local to it.
use Rattle.std.specs.Prelude.{ℕ, nat_eq, Bool, true, false, ◌&&◌, Option, Some, None, List, [], ◌∷◌, ◌++◌, if◌then◌else◌}
use Rattle.std.specs.List.{list_any, position_or_len}
use Rattle.sc_tree.specs.declared.ctype.CType.{CType}
use Rattle.sc_typed.specs.declared.program.Global.{Global}
use Rattle.sc_typed.specs.Types.{compatible, composite, same_length}
use Rattle.sc_rules.specs.declared.walk.Entity.{Entity}
use Rattle.sc_rules.specs.declared.walk.Entity.TheVariants as entity
use Rattle.sc_rules.specs.declared.walk.GlobalKey.{GlobalKey}
use Rattle.sc_rules.specs.Walks.{Check, ◌>>=◌, done, name_here}
use Rattle.sc_declare.specs.declared.linkage.Linked.{Linked}
use Rattle.sc_names.specs.Names.{declare_or}

-- whether a global has that key
abbrev pub same_key : GlobalKey → Global → Bool
same_key k g = nat_eq k.name.at g.name.at && same_length k.file g.file

-- the number of the global with that key; the number behind all others where there is none
abbrev pub number_of : GlobalKey → List Global → ℕ
number_of k gs = position_or_len (same_key k) gs

-- the type that all files give it, where it is known; else that of the declaration
abbrev pub type_or : CType → Option CType → CType
type_or t None = t
type_or t (Some s) = s

-- the globals, and one more where none has that key
abbrev pub with_global : List Global → GlobalKey → CType → List Global
with_global gs k t =
    if list_any (same_key k) gs then gs else gs ++ record { name = k.name; ctype = t; file = k.file } ∷ []

abbrev pub global_number : GlobalKey → Check ℕ
global_number k w = (number_of k w.globals, w)

-- a declaration is put on record, and its global is there
abbrev pub add_global : Linked → Check (Unit {0})
add_global d w = (
  tt,
  record w {
    globals = with_global w.globals d.key (type_or d.ctype d.over_all);
    records = w.records ++ record { file = d.file; name = d.key.name; ctype = d.ctype; is_static = d.is_static } ∷ [];
  },
)

abbrev pub global_again : Bool → ℕ → (old new : CType) → Option Entity
global_again true n old new = Some (entity.Global n (composite old new))
global_again false n old new = None

-- what the name of a variable with linkage means from now on; none where it cannot stand beside what the name is
-- already
abbrev pub global_beside : Option Entity → ℕ → CType → Option Entity
global_beside None n t = Some (entity.Global n t)
global_beside (Some (entity.Global m s)) n t = global_again (nat_eq n m && compatible s t) n s t
global_beside (Some _) n t = None

-- a name that means that from now on, with its global; nothing where it clashes
abbrev pub global_if : Option Entity → Linked → Check (Unit {0})
global_if None d = declare_or None d.key.name d.pos
global_if (Some e) d = do
  _ ← declare_or (Some e) d.key.name d.pos
  add_global d

-- a variable with linkage is declared in the innermost scope; it gives the number of the global
abbrev pub declare_global : Linked → Check ℕ
declare_global d = do
  n ← global_number d.key
  old ← name_here d.key.name
  _ ← global_if (global_beside old n d.ctype) d
  done n
