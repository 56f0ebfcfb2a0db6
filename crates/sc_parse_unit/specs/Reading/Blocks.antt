-- Blocks, and the items between the braces of a block or a `switch` (C11 6.8.1, 6.8.2).
use Rattle.std.specs.Prelude.{ℕ, length, Bool, true, false, not, ◌&&◌, List, [], Option, Some, if◌then◌else◌}
use Rattle.sc_base.specs.declared.pos.NameId.{NameId}
use Rattle.sc_tree.specs.declared.token.Reserved.{Reserved}
use Rattle.sc_tree.specs.declared.token.Reserved.TheVariants as key
use Rattle.sc_tree.specs.declared.stmt.Stmt.{Stmt}
use Rattle.sc_tree.specs.declared.stmt.Stmt.TheVariants as stmt
use Rattle.sc_tree.specs.declared.grammar.Level.TheVariants.{Choice}
use Rattle.sc_tree.specs.Tables.{◌>>=◌}
use Rattle.sc_tree.specs.Tokens.{first_pos}
use Rattle.sc_parse_front.specs.Front.{front_reserved, behind, is_right_brace, is_colon, begins_type}
use Rattle.sc_parse_expr.specs.Read.{read, Parse, node, taking, many}
use Rattle.sc_parse_expr.specs.Reading.Parse.{expr_at}
use Rattle.sc_parse_expr.specs.Reading.Grammar.{with_item}
use Rattle.sc_parse_unit.specs.Reading.Fronts.{label_at, is_label}
use Rattle.sc_parse_unit.specs.Reading.Declarations.{body_declaration}
use Rattle.sc_parse_unit.specs.Reading.Parts.{made}

-- What an item of a `switch` may begin with beside.
pub data Marker : Type 0 where
  ACase : Marker
  ADefault : Marker
  NoMarker : Marker

abbrev pub marker : Option Reserved → Marker
marker (Some key.Case) = ACase
marker (Some key.Default) = ADefault
marker _ = NoMarker

module _ (types : List NameId) (below : ℕ) (inner : Parse Stmt) where
  -- a declaration among items
  unfoldable pub local : Parse Stmt
  local ts = body_declaration types below ts >>= λ t. node below (stmt.Decl t.it (first_pos ts)) t.height t.rest

  unfoldable pub case_item : Parse Stmt
  case_item ts = expr_at types below Choice (behind ts) >>= λ a. taking is_colon a.rest >>= λ rest.
      Some (read (stmt.Case a.it.tree (first_pos ts)) a.height rest)

  unfoldable pub default_item : Parse Stmt
  default_item ts = taking is_colon (behind ts) >>= λ rest. Some (read (stmt.Default (first_pos ts)) 0 rest)

  unfoldable pub plain_item : Parse Stmt
  plain_item ts = if begins_type types ts && not (is_label (label_at ts)) then local ts else inner ts

  unfoldable pub marked_item : Marker → Parse Stmt
  marked_item ACase ts = case_item ts
  marked_item ADefault ts = default_item ts
  marked_item NoMarker ts = plain_item ts

  unfoldable pub an_item : Bool → Parse Stmt
  an_item true ts = marked_item (marker (front_reserved ts)) ts
  an_item false ts = plain_item ts

  -- items up to a closing brace, which is left
  unfoldable pub items : Bool → Parse (List Stmt)
  items switch ts = many (an_item switch) with_item is_right_brace (length ts) [] 0 ts

  unfoldable pub a_block : Parse Stmt
  a_block ts = items false (behind ts) >>= λ xs. made types below inner (stmt.Block xs.it (first_pos ts) (first_pos xs.rest)) xs.height (behind xs.rest)
