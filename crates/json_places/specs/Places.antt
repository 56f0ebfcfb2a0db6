-- Places: in the file that was read, and in the source by the line marks of that file.
use Rattle.std.specs.Prelude.{ℕ, Bool, not, List, [], slice_index_or, bytes_eq, codes}
use Rattle.sc_base.specs.declared.pos.Pos.{Pos}
use Rattle.json.specs.Json.{Json, string, object, no_members}
use Rattle.json_text.specs.Values.{text_value, count_value, with}
use Rattle.line_marks.specs.declared.marks.Mark.{Mark}
use Rattle.line_marks.specs.Sources.{Origin, origin, main_name}
use Rattle.sc_typed.specs.declared.program.Program.{Program}
use Rattle.report_text.specs.Names.{file_text}

unfoldable pub source_value : Origin → Json
source_value o = object (with (codes "file") (text_value o.name) (with (codes "line") (count_value o.line) no_members))

-- of a program, with the marks of its files; a file without marks is its own source
module _ (p : Program) (marks : List (List Mark)) where
  abbrev pub marks_of : (file : ℕ) → List Mark
  marks_of file = slice_index_or marks file []

  abbrev pub source_at : (file line : ℕ) → Origin
  source_at file line = origin (marks_of file) (file_text p file) line

  unfoldable pub place_value : Pos → Json
  place_value at =
      object (with (codes "file") (string (file_text p at.file))
      (with (codes "line") (count_value at.line)
      (with (codes "column") (count_value at.col) (with (codes "source") (source_value (source_at at.file at.line)) no_members))))

  -- the source of the file that was read: the name in its first mark
  abbrev pub main_source : (file : ℕ) → List ℕ
  main_source file = main_name (marks_of file) (file_text p file)

  -- whether a place stands in another source than that of its file
  unfoldable pub is_in_header : Pos → Bool
  is_in_header at = not (bytes_eq (source_at at.file at.line).name (main_source at.file))
