-- What names mean in the files of a program, and whether the tables of the file at hand say so.
use Rattle.std.specs.Prelude.{◌≡◌, ℕ, Bool, Option, None, false}
use Rattle.sc_tree.specs.declared.ctype.CType.{CType}
use Rattle.sc_program.specs.Tables.{body_in, local_in}
use Rattle.sc_program.specs.Types.{type_of}
use Rattle.file_tables.specs.declared.tables.FileTables.{FileTables}
use Rattle.file_tables.specs.Filled.{Meaning, IsTable}

-- the number of the body that a name means in a file
abbrev pub body : FileTables → Meaning (Option ℕ)
body t = body_in t.numbers

-- whether a variable of that name is local to a file
abbrev pub is_local : FileTables → Meaning Bool
is_local t = local_in t.local

-- the type over all files of the variable that a name means in a file
abbrev pub global_type : FileTables → Meaning (Option CType)
global_type t = type_of t.types

-- the number of the file at hand
abbrev pub file_of : FileTables → ℕ
file_of t = t.file

-- the three tables are those of the file at hand
pub record AreTables (t : FileTables) : Type 0 where
  pub of_bodies : IsTable None t.own.items (body_in t.numbers) t.file t.bodies.items
  pub of_locals : IsTable false t.own.items (local_in t.local) t.file t.locals.items
  pub of_types : IsTable None t.own.items (type_of t.types) t.file t.globals.items

-- the same meanings, with another file at hand
pub record AreTurned (before : FileTables) (file : ℕ) (t : FileTables) : Type 0 where
  pub tables : AreTables t
  pub at_hand : file_of t ≡ file
  pub same_bodies : body t ≡ body before
  pub same_locals : is_local t ≡ is_local before
  pub same_types : global_type t ≡ global_type before
