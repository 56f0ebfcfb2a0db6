-- What a declarator declares, as far as its type says it (C11 6.7).
use Rattle.std.specs.Prelude.{ℕ, Bool, true, Option, Some, None, if◌then◌else◌}
use Rattle.sc_base.specs.declared.pos.Pos.{Pos}
use Rattle.sc_base.specs.declared.pos.NameId.{NameId}
use Rattle.sc_tree.specs.declared.ctype.CType.{CType}
use Rattle.sc_tree.specs.declared.ctype.Widths.{Widths}
use Rattle.sc_typed.specs.Types.{is_function}
use Rattle.sc_rules.specs.declared.walk.GlobalKey.{GlobalKey}
use Rattle.sc_rules.specs.Walks.{Check, done}
use Rattle.sc_names.specs.Structs.{object_at}
use Rattle.sc_declare.specs.declared.linkage.Linked.{Linked}

-- what tells a variable with linkage from others; with the flag it is local to the file
abbrev pub key_in : (file : ℕ) → (is_local : Bool) → NameId → GlobalKey
key_in file is_local name = record { name = name; file = if is_local then Some file else None }

-- A declaration of a variable with linkage, if its type is known. `over_all` is the type that all files give it,
-- once that is known.
abbrev pub linked_in : (file : ℕ) → (is_local : Bool) → (over_all : Option CType) → NameId → Pos → (is_static : Bool) → Option CType → Option Linked
linked_in file is_local over_all name at is_static None = None
linked_in file is_local over_all name at is_static (Some t) =
    Some (record {
      file = file;
      key = key_in file is_local name;
      pos = at;
      ctype = t;
      over_all = over_all;
      is_static = is_static;
    })

-- a declaration that defines an object needs a type that an object has
abbrev pub object_if : Widths → Bool → Pos → Option CType → Check Bool
object_if ws true at (Some t) = object_at ws at t
object_if ws _ at _ = done true

-- whether a function is declared: by its type, or, where that has a fault, by its declarator
abbrev pub is_function_of : Option CType → (by_declarator : Bool) → Bool
is_function_of None by_declarator = by_declarator
is_function_of (Some t) by_declarator = is_function t
