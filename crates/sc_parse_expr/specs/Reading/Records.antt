-- Structs and unions with their members (C11 6.7.2.1).
use Rattle.std.specs.Prelude.{ℕ, max, length, Bool, List, [], Option, Some, None, if◌then◌else◌}
use Rattle.sc_base.specs.declared.pos.Pos.{Pos}
use Rattle.sc_base.specs.declared.pos.NameId.{NameId}
use Rattle.sc_tree.specs.declared.expr.Expr.{Expr}
use Rattle.sc_tree.specs.declared.expr.Specs.{Specs}
use Rattle.sc_tree.specs.declared.expr.Base.TheVariants as base
use Rattle.sc_tree.specs.declared.expr.Aggregate.{roll-Aggregate}
use Rattle.sc_tree.specs.declared.expr.Member.{Member, roll-Member}
use Rattle.sc_tree.specs.declared.expr.Part.{Part, roll-Part}
use Rattle.sc_tree.specs.declared.expr.Declarator.{Declarator}
use Rattle.sc_tree.specs.declared.grammar.Level.TheVariants.{Choice}
use Rattle.sc_tree.specs.declared.grammar.Naming.TheVariants as naming
use Rattle.sc_tree.specs.declared.grammar.BodyForm.{BodyForm}
use Rattle.sc_tree.specs.declared.grammar.BodyForm.TheVariants as form
use Rattle.sc_tree.specs.declared.grammar.Piece.{Piece}
use Rattle.sc_tree.specs.declared.grammar.Piece.TheVariants as piece
use Rattle.sc_tree.specs.declared.grammar.Specified.{Specified}
use Rattle.sc_tree.specs.Tables.{◌>>=◌}
use Rattle.sc_tree.specs.Tokens.{first_pos}
use Rattle.sc_tree.specs.Grammar.{body_form}
use Rattle.sc_parse_expr.specs.declared.found.Wanted.{Wanted}
use Rattle.sc_parse_expr.specs.declared.found.Phrase.{Phrase}
use Rattle.sc_parse_expr.specs.declared.found.Declared.{Declared}
use Rattle.sc_parse_front.specs.Front.{front, behind, is_left_brace, is_right_brace, is_colon, is_semicolon}
use Rattle.sc_parse_expr.specs.Read.{Read, read, Parse, node, taking, commas, many}
use Rattle.sc_parse_expr.specs.Reading.Grammar.{with_item, never, inner_expr, inner_specs, inner_declarator}

module _ (types : List NameId) (limit : ℕ) (inner : Wanted → Parse Phrase) where
  abbrev pub part_of : Option Declarator → Option Expr → Part
  part_of t w = roll-Part (record { declarator = t; width = w })

  unfoldable pub padding : Parse Part
  padding ts = inner_expr types limit inner Choice (behind ts) >>= λ w. Some (read (part_of None (Some w.it.tree)) w.height w.rest)

  unfoldable pub with_width : Read Declared → Option (Read Part)
  with_width t = if is_colon (front t.rest)
      then (inner_expr types limit inner Choice (behind t.rest) >>= λ w.
      Some (read (part_of (Some t.it.declarator) (Some w.it.tree)) (max t.height w.height) w.rest))
      else Some (read (part_of (Some t.it.declarator) None) t.height t.rest)

  unfoldable pub part : Parse Part
  part ts = if is_colon (front ts) then padding ts else (inner_declarator types limit inner naming.Member ts >>= with_width)

  -- one member of a line at least
  abbrev pub some_parts : Parse (List Part)
  some_parts ts = commas (part) with_item never (length ts) [] 0 ts >>= λ r. Some (read r.it.items r.height r.rest)

  abbrev pub member_of : Specs → List Part → Member
  member_of s xs = roll-Member (record { specs = s; parts = xs })

  abbrev pub lone_member : BodyForm → Read Specified → Option (Read Member)
  lone_member form.Untagged s = Some (read (member_of s.it.specs []) s.height (behind s.rest))
  lone_member _ s = None

  unfoldable pub parts : Read Specified → Option (Read Member)
  parts s = commas part with_item never (length s.rest) [] 0 s.rest >>= λ xs. taking is_semicolon xs.rest >>= λ rest.
      Some (read (member_of s.it.specs xs.it.items) (max s.height xs.height) rest)

  unfoldable pub member : Parse Member
  member ts = inner_specs types limit inner ts >>= λ s. if is_semicolon (front s.rest) then lone_member s.it.form s else parts s

  abbrev pub record_piece : Bool → Pos → Option NameId → Option (List Member) → BodyForm → Piece
  record_piece u p tag body f = piece.Whole (base.Struct (roll-Aggregate (record { pos = p; union = u; tag = tag; body = body }))) f

  -- behind the opening brace
  unfoldable pub record_body : Bool → Pos → Option NameId → Parse Piece
  record_body u p tag ts = many member with_item is_right_brace (length ts) [] 0 ts >>= λ xs.
      node limit (record_piece u p tag (Some xs.it) (body_form tag)) xs.height (behind xs.rest)

  -- behind the tag
  unfoldable pub tagged_record : Bool → Pos → NameId → Parse Piece
  tagged_record u p tag ts = if is_left_brace (front ts) then
      record_body u p (Some tag) (behind ts) else Some (read (record_piece u p (Some tag) None form.NoBody) 0 ts)

  unfoldable pub record_by : Bool → Pos → Option NameId → Parse Piece
  record_by u p (Some tag) ts = tagged_record u (first_pos ts) tag (behind ts)
  record_by u p None ts = if is_left_brace (front ts) then record_body u p None (behind ts) else None
