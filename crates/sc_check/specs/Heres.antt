-- What stays the same on the way through a file, told from the table of the built-in functions and from what the
-- names of the program mean in its files.
use Rattle.std.specs.Prelude.{ℕ, Bool, true, false, Option, None, List, slice_index_or}
use Rattle.sc_tree.specs.declared.ctype.Widths.{Widths}
use Rattle.sc_rules.specs.declared.walk.Builtin.{Builtin}
use Rattle.sc_typing.specs.Here.{Here}
use Rattle.sc_typed.specs.declared.program.StructDef.{StructDef}
use Rattle.sc_rules.specs.declared.walk.Record.{Record}
use Rattle.sc_program.specs.declared.bodies.Bodied.{Bodied}
use Rattle.sc_program.specs.Bodies.{body_named}
use Rattle.sc_program.specs.Globals.{is_local_global, type_over_all}
use Rattle.file_tables.specs.declared.tables.FileTables.{FileTables}
use Rattle.file_tables.specs.Linkage as linked

abbrev pub entry_of : List (Option Builtin) → ℕ → Option Builtin
entry_of builtins n = slice_index_or builtins n None

-- in the first walk nothing is known of other files
abbrev pub alone_here : Widths → List (Option Builtin) → (file : ℕ) → Here
alone_here w builtins f =
    record {
      widths = w;
      file = f;
      builtin = entry_of builtins;
      body = λ n. None;
      is_local = λ n. false;
      settled = false;
      global_type = λ n. None;
    }

-- in the second one all is
abbrev pub linked_here : Widths → List (Option Builtin) → FileTables → (file : ℕ) → Here
linked_here w builtins t f =
    record {
      widths = w;
      file = f;
      builtin = entry_of builtins;
      body = linked.body t f;
      is_local = linked.is_local t f;
      settled = true;
      global_type = linked.global_type t f;
    }

-- what names mean where these are the structs, the declarations of variables and the bodies of all files
abbrev pub known_here :
    Widths → List (Option Builtin) → List StructDef → List Record → List Bodied → (file : ℕ) → Here
known_here w builtins structs records bodies f =
    record {
      widths = w;
      file = f;
      builtin = entry_of builtins;
      body = body_named bodies f;
      is_local = is_local_global records f;
      settled = true;
      global_type = type_over_all w structs records f;
    }
