-- Why a function or a declaration is left out.
use Rattle.std.specs.Prelude.{ℕ, List, codes}
use Rattle.sc_base.specs.declared.pos.Pos.{Pos}
use Rattle.sc_base.specs.declared.skip.Skip.{Skip}
use Rattle.sc_base.specs.declared.skip.Skip.TheVariants as skip
use Rattle.json.specs.Json.{Json, string, object, no_members}
use Rattle.json_text.specs.Values.{text_value, count_value, with}
use Rattle.line_marks.specs.declared.marks.Mark.{Mark}
use Rattle.sc_typed.specs.declared.program.Program.{Program}
use Rattle.report_text.specs.Reasons.{unsupported_word, ill_typed_word, limit_word}
use Rattle.json_places.specs.Places.{place_value}

unfoldable pub limit_value : (kind : List ℕ) → (count : ℕ) → Json
limit_value kind count =
    object (with (codes "reason") (string (codes "limit"))
    (with (codes "kind") (text_value kind) (with (codes "count") (count_value count) no_members)))

module _ (p : Program) (marks : List (List Mark)) where
  unfoldable pub grammar_value : Pos → Json
  grammar_value at =
      object (with (codes "reason") (string (codes "grammar")) (with (codes "place") (place_value p marks at) no_members))

  -- with the kind in the word of the text
  unfoldable pub kind_value : (reason kind : List ℕ) → Pos → Json
  kind_value reason kind at =
      object (with (codes "reason") (string reason)
      (with (codes "kind") (text_value kind) (with (codes "place") (place_value p marks at) no_members)))

  abbrev pub skip_value : Skip → Json
  skip_value (skip.Grammar at) = grammar_value at
  skip_value (skip.Unsupported kind at) = kind_value (codes "unsupported") (unsupported_word kind) at
  skip_value (skip.IllTyped kind at) = kind_value (codes "illtyped") (ill_typed_word kind) at
  skip_value (skip.Limit kind count) = limit_value (limit_word kind) count
