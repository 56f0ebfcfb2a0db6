-- Why something is passed over, in words, and the line of a note.
use Rattle.std.specs.Prelude.{ℕ, List, [], ◌++◌, codes, decimal}
use Rattle.sc_base.specs.declared.pos.Pos.{Pos}
use Rattle.sc_base.specs.declared.skip.Skip.{Skip}
use Rattle.sc_base.specs.declared.skip.Skip.TheVariants as skip
use Rattle.sc_base.specs.declared.skip.Unsupported.{Unsupported}
use Rattle.sc_base.specs.declared.skip.Unsupported.TheVariants as u
use Rattle.sc_base.specs.declared.skip.IllTyped.{IllTyped}
use Rattle.sc_base.specs.declared.skip.IllTyped.TheVariants as i
use Rattle.sc_base.specs.declared.skip.LimitKind.{LimitKind}
use Rattle.sc_base.specs.declared.skip.LimitKind.TheVariants as limit
use Rattle.sc_typed.specs.declared.program.Program.{Program}
use Rattle.sc_world.specs.Paths.{place_text}
use Rattle.report_text.specs.Names.{place_in_file}

unfoldable pub unsupported_word : Unsupported → List ℕ
unsupported_word u.Float = codes "float"
unsupported_word u.Wide = codes "wide"
unsupported_word u.VaList = codes "valist"
unsupported_word u.Odd = codes "odd"
unsupported_word u.Union = codes "union"
unsupported_word u.BitField = codes "bitfield"
unsupported_word u.Anon = codes "anon"
unsupported_word u.Arith = codes "arith"
unsupported_word u.Order = codes "order"
unsupported_word u.Cast = codes "cast"
unsupported_word u.Struct = codes "struct"
unsupported_word u.Static = codes "static"
unsupported_word u.Vla = codes "vla"
unsupported_word u.Init = codes "init"
unsupported_word u.Goto = codes "goto"
unsupported_word u.Variadic = codes "variadic"
unsupported_word u.Call = codes "call"

unfoldable pub ill_typed_word : IllTyped → List ℕ
ill_typed_word i.Name = codes "name"
ill_typed_word i.Field = codes "field"
ill_typed_word i.Label = codes "label"
ill_typed_word i.Operand = codes "operand"
ill_typed_word i.Lvalue = codes "lvalue"
ill_typed_word i.Call = codes "call"
ill_typed_word i.Return = codes "return"
ill_typed_word i.Constant = codes "constant"
ill_typed_word i.Incomplete = codes "incomplete"
ill_typed_word i.Again = codes "again"

unfoldable pub limit_word : LimitKind → List ℕ
limit_word limit.Files = codes "files"
limit_word limit.Input = codes "input"
limit_word limit.Functions = codes "functions"
limit_word limit.Edges = codes "edges"
limit_word limit.Params = codes "params"
limit_word limit.Nodes = codes "nodes"
limit_word limit.Locations = codes "locations"

-- the reason of a skipped function, with its place or its count
abbrev pub reason_text : Skip → List ℕ
reason_text (skip.Grammar at) = codes "grammar " ++ place_text at
reason_text (skip.Unsupported kind at) = codes "unsupported " ++ (unsupported_word kind ++ (codes " " ++ place_text at))
reason_text (skip.IllTyped kind at) = codes "illtyped " ++ (ill_typed_word kind ++ (codes " " ++ place_text at))
reason_text (skip.Limit kind count) = codes "limit " ++ (limit_word kind ++ (codes " " ++ decimal count))

-- The line of a note, whose place stands before its reason. A limit is no note.
unfoldable pub note_line : Program → Pos → (reason : List ℕ) → List ℕ
note_line p at reason = codes "note " ++ (place_in_file p at ++ (codes " " ++ (reason ++ codes "\n")))

abbrev pub note_text : Program → Skip → List ℕ
note_text p (skip.Grammar at) = note_line p at (codes "grammar")
note_text p (skip.Unsupported kind at) = note_line p at (codes "unsupported " ++ unsupported_word kind)
note_text p (skip.IllTyped kind at) = note_line p at (codes "illtyped " ++ ill_typed_word kind)
note_text p (skip.Limit kind count) = []
