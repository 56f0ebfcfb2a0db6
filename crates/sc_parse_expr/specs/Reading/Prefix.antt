-- The operators before their operand, `sizeof` and casts (C11 6.5.3, 6.5.4).
use Rattle.std.specs.Prelude.{ℕ, max, Bool, true, false, ◌&&◌, List, Option, Some, None, if◌then◌else◌}
use Rattle.sc_base.specs.declared.pos.NameId.{NameId}
use Rattle.sc_tree.specs.declared.token.Token.{Token}
use Rattle.sc_tree.specs.declared.op.UnaryOp.{UnaryOp}
use Rattle.sc_tree.specs.declared.op.Step.{Step}
use Rattle.sc_tree.specs.declared.expr.Expr.TheVariants as e
use Rattle.sc_tree.specs.declared.grammar.Level.TheVariants.{Prefix, Cast}
use Rattle.sc_tree.specs.declared.grammar.Naming.TheVariants as naming
use Rattle.sc_tree.specs.Tables.{◌>>=◌}
use Rattle.sc_tree.specs.Tokens.{first_pos, at}
use Rattle.sc_parse_expr.specs.declared.found.Wanted.{Wanted}
use Rattle.sc_parse_expr.specs.declared.found.Phrase.{Phrase}
use Rattle.sc_parse_expr.specs.declared.found.Operand.{Operand}
use Rattle.sc_parse_front.specs.Front.{front, front_reserved, behind, is_left_paren, is_right_paren, is_sizeof, begins_type, unary_at, step_at}
use Rattle.sc_parse_expr.specs.Read.{Parse, node, taking}
use Rattle.sc_parse_expr.specs.Reading.Found.{operand}
use Rattle.sc_parse_expr.specs.Reading.Grammar.{inner_expr, inner_head}
use Rattle.sc_parse_expr.specs.Reading.Suffixes.{postfix}

module _ (types : List NameId) (limit : ℕ) (inner : Wanted → Parse Phrase) where
  unfoldable pub applied : UnaryOp → Parse Operand
  applied op ts = inner_expr types limit inner Cast (behind ts) >>= λ a. node limit (operand (e.Unary op a.it.tree (at (first_pos ts))) true) a.height a.rest

  unfoldable pub stepped_first : Step → Parse Operand
  stepped_first by ts = inner_expr types limit inner Prefix (behind ts) >>= λ a.
      node limit (operand (e.PreInc by a.it.tree (at (first_pos ts))) true) a.height a.rest

  unfoldable pub size_of_type : Parse Operand
  size_of_type ts = inner_head types limit inner naming.Absent (behind (behind ts)) >>= λ t. taking is_right_paren t.rest >>= λ rest.
      node limit (operand (e.SizeofType t.it.head (at (first_pos ts))) true) t.height rest

  unfoldable pub size_of : Parse Operand
  size_of ts = inner_expr types limit inner Prefix (behind ts) >>= λ a. node limit (operand (e.SizeofExpr a.it.tree (at (first_pos ts))) true) a.height a.rest

  -- whether a type in brackets stands there
  abbrev pub opens_type : List Token → Bool
  opens_type ts = is_left_paren (front ts) && begins_type types (behind ts)

  unfoldable pub sized : Parse Operand
  sized ts = if opens_type (behind ts) then size_of_type ts else size_of ts

  unfoldable pub prefix_by : Option UnaryOp → Option Step → Bool → Parse Operand
  prefix_by (Some op) s size ts = applied op ts
  prefix_by None (Some by) size ts = stepped_first by ts
  prefix_by None None true ts = sized ts
  prefix_by None None false ts = postfix types limit inner ts

  unfoldable pub prefix : Parse Operand
  prefix ts = prefix_by (unary_at (front ts)) (step_at (front ts)) (is_sizeof (front_reserved ts)) ts

  unfoldable pub cast : Parse Operand
  cast ts = inner_head types limit inner naming.Absent (behind ts) >>= λ t. taking is_right_paren t.rest >>= λ rest.
      inner_expr types limit inner Cast rest >>= λ a.
      node limit (operand (e.Cast t.it.head a.it.tree (at (first_pos ts))) false) (max t.height a.height) a.rest

  unfoldable pub casts : Parse Operand
  casts ts = if opens_type ts then cast ts else prefix ts
