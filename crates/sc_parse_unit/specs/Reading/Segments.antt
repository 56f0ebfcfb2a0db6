-- The segments of a file (C11 6.9).
use Rattle.std.specs.Prelude.{ℕ, ◌-◌, List, [], ◌∷◌, take, drop, Option, Some, None, if◌then◌else◌}
use Rattle.sc_base.specs.declared.pos.NameId.{NameId}
use Rattle.sc_base.specs.declared.skip.Skip.TheVariants.{Grammar}
use Rattle.sc_tree.specs.declared.token.Token.{Token}
use Rattle.sc_tree.specs.declared.stmt.Stmt.{Stmt}
use Rattle.sc_tree.specs.declared.unit.Segment.{Segment}
use Rattle.sc_tree.specs.declared.unit.Segment.TheVariants as segment
use Rattle.sc_tree.specs.declared.unit.Body.{Body}
use Rattle.sc_tree.specs.declared.unit.Body.TheVariants as body
use Rattle.sc_tree.specs.Tokens.{first_pos}
use Rattle.sc_tree.specs.Trees.{max_height}
use Rattle.sc_tree.specs.Units.{is_empty}
use Rattle.sc_parse_expr.specs.Read.{Read}
use Rattle.sc_parse_unit.specs.declared.found.Outline.{Outline}
use Rattle.sc_parse_unit.specs.declared.found.Outline.TheVariants as outline
use Rattle.sc_parse_unit.specs.Reading.Statements.{statement}
use Rattle.sc_parse_unit.specs.Reading.Outlines.{Outlined, outline_of}

-- What a segment leaves: what it is, and the typedef names behind it.
pub record Segmented : Type 0 where
  pub it : Segment
  pub types : List NameId

abbrev pub body_by : List Token → Option (Read Stmt) → Body
body_by inside None = body.Skipped (Grammar (first_pos inside))
body_by inside (Some r) = if is_empty r.rest then body.Tree r.it else body.Skipped (Grammar (first_pos inside))

-- the body of a function, of tokens in braces
unfoldable pub body_of : List NameId → List Token → Body
body_of types inside = body_by inside (statement types max_height inside)

abbrev pub segmented : Segment → List NameId → Segmented
segmented x types = record { it = x; types = types }

abbrev pub filled : Outline → List NameId → List Token → Segmented
filled (outline.Decl x) types inside = segmented (segment.Decl x) types
filled (outline.Function x) types inside = segmented (segment.Function x (body_of types inside)) types

unfoldable pub segment_by : List NameId → List Token → Option Outlined → Segmented
segment_by types ts None = segmented (segment.Skipped (Grammar (first_pos ts))) types
segment_by types ts (Some o) = filled o.it o.types o.inside

-- what a segment is with the typedef names before it
unfoldable pub segment_of : List NameId → List Token → Segmented
segment_of types ts = segment_by types ts (outline_of types ts)

-- all segments, from that token on
unfoldable pub segments_of : List NameId → List Token → ℕ → List ℕ → List Segment
segments_of types ts from [] = []
segments_of types ts from (end ∷ ends) = let s : Segmented = segment_of types (take (end - from) (drop from ts)) in s.it ∷ segments_of s.types ts end ends
