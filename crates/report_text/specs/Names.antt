-- Texts of names and places. A name, file, parameter or global that the program does not have has no bytes.
use Rattle.std.specs.Prelude.{ℕ, Option, Some, None, List, ◌++◌, [], slice_get, slice_index_or, codes}
use Rattle.sc_base.specs.declared.pos.Pos.{Pos}
use Rattle.sc_base.specs.declared.pos.NameId.{NameId}
use Rattle.sc_typed.specs.declared.program.Program.{Program}
use Rattle.sc_typed.specs.declared.program.Param.{Param}
use Rattle.sc_typed.specs.declared.program.Global.{Global}
use Rattle.sc_world.specs.Paths.{place_text}

-- the text of a name
abbrev pub name_text : Program → NameId → List ℕ
name_text p n = slice_index_or p.names n.at []

-- the name of a file
abbrev pub name_if : Program → Option NameId → List ℕ
name_if p None = []
name_if p (Some n) = name_text p n

abbrev pub file_text : Program → (file : ℕ) → List ℕ
file_text p file = name_if p (slice_get p.files file)

-- `FILE:LINE:COL`
abbrev pub place_in_file : Program → Pos → List ℕ
place_in_file p at = file_text p at.file ++ (codes ":" ++ place_text at)

-- the name of a parameter
abbrev pub param_if : Program → Option Param → List ℕ
param_if p None = []
param_if p (Some q) = name_text p q.name

abbrev pub param_text : Program → List Param → ℕ → List ℕ
param_text p params n = param_if p (slice_get params n)

-- the name of a global
abbrev pub global_if : Program → Option Global → List ℕ
global_if p None = []
global_if p (Some g) = name_text p g.name

abbrev pub global_text : Program → ℕ → List ℕ
global_text p n = global_if p (slice_get p.globals n)
