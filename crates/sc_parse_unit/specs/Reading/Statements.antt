-- Statements (C11 6.8): what the first tokens begin, jumps, labels and expressions.
use Rattle.std.specs.Prelude.{ℕ, zero, suc, List, Option, Some, None, if◌then◌else◌}
use Rattle.sc_base.specs.declared.pos.Pos.{Pos}
use Rattle.sc_base.specs.declared.pos.NameId.{NameId}
use Rattle.sc_tree.specs.declared.stmt.Stmt.{Stmt}
use Rattle.sc_tree.specs.declared.stmt.Stmt.TheVariants as stmt
use Rattle.sc_tree.specs.Tables.{◌>>=◌}
use Rattle.sc_tree.specs.Tokens.{first_pos}
use Rattle.sc_parse_front.specs.Front.{front, front_word, front_reserved, behind, is_left_brace, is_semicolon}
use Rattle.sc_parse_expr.specs.Read.{Parse, taking}
use Rattle.sc_parse_unit.specs.Reading.Fronts.{Keyword, AnIf, AWhile, ADo, AFor, ASwitch, AGoto, ABreak, AContinue, AReturn, NoKeyword, keyword, label_at}
use Rattle.sc_parse_unit.specs.Reading.Parts.{made, at_most}
use Rattle.sc_parse_unit.specs.Reading.Blocks.{a_block}
use Rattle.sc_parse_unit.specs.Reading.Selection.{an_if, a_switch}
use Rattle.sc_parse_unit.specs.Reading.Iteration.{a_while, a_do, a_for}

module _ (types : List NameId) (below : ℕ) (inner : Parse Stmt) where
  unfoldable pub a_goto : Pos → Parse Stmt
  a_goto p ts = front_word ts >>= λ w. taking is_semicolon (behind ts) >>= λ rest. made types below inner (stmt.Goto w p) 0 rest

  unfoldable pub a_break : Pos → Parse Stmt
  a_break p ts = taking is_semicolon ts >>= λ rest. made types below inner (stmt.Break p) 0 rest

  unfoldable pub a_continue : Pos → Parse Stmt
  a_continue p ts = taking is_semicolon ts >>= λ rest. made types below inner (stmt.Continue p) 0 rest

  unfoldable pub a_return : Pos → Parse Stmt
  a_return p ts = at_most types below inner is_semicolon ts >>= λ a. taking is_semicolon a.rest >>= λ rest.
      made types below inner (stmt.Return a.it p) a.height rest

  unfoldable pub expression : Parse Stmt
  expression ts = at_most types below inner is_semicolon ts >>= λ a. taking is_semicolon a.rest >>= λ rest.
      made types below inner (stmt.Expr a.it (first_pos ts)) a.height rest

  unfoldable pub a_label : NameId → Parse Stmt
  a_label w ts = inner (behind (behind ts)) >>= λ x. made types below inner (stmt.Label w x.it (first_pos ts)) x.height x.rest

  unfoldable pub by_keyword : Keyword → Parse Stmt
  by_keyword AnIf ts = an_if types below inner (first_pos ts) (behind ts)
  by_keyword AWhile ts = a_while types below inner (first_pos ts) (behind ts)
  by_keyword ADo ts = a_do types below inner (first_pos ts) (behind ts)
  by_keyword AFor ts = a_for types below inner (first_pos ts) (behind ts)
  by_keyword ASwitch ts = a_switch types below inner (first_pos ts) (behind ts)
  by_keyword AGoto ts = a_goto (first_pos ts) (behind ts)
  by_keyword ABreak ts = a_break (first_pos ts) (behind ts)
  by_keyword AContinue ts = a_continue (first_pos ts) (behind ts)
  by_keyword AReturn ts = a_return (first_pos ts) (behind ts)
  by_keyword NoKeyword ts = expression ts

  unfoldable pub by_label : Option NameId → Parse Stmt
  by_label (Some w) ts = a_label w ts
  by_label None ts = if is_left_brace (front ts) then a_block types below inner ts else by_keyword (keyword (front_reserved ts)) ts

  unfoldable pub statement_by : Parse Stmt
  statement_by ts = by_label (label_at ts) ts

unfoldable pub statement : List NameId → ℕ → Parse Stmt
statement types zero ts = None
statement types (suc n) ts = statement_by types n (λ us. statement types n us) ts
