-- The types that the table of types shows.
use Rattle.std.specs.Prelude.{ℕ, Option}
use Rattle.sc_tree.specs.declared.ctype.CType.{CType}
use Rattle.sc_program.specs.declared.globals.GlobalTypes.{GlobalTypes}
use Rattle.sc_program.specs.Tables.{local_in, type_in}

-- the type of the variable that a name means in a file
abbrev pub type_of : GlobalTypes → (file name : ℕ) → Option CType
type_of g = type_in g.records (local_in g.local) g.settled g.any
