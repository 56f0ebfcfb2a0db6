-- `while`, `do` and `for` (C11 6.8.5).
use Rattle.std.specs.Prelude.{ℕ, max, List, Option, Some, if◌then◌else◌}
use Rattle.sc_base.specs.declared.pos.Pos.{Pos}
use Rattle.sc_base.specs.declared.pos.NameId.{NameId}
use Rattle.sc_tree.specs.declared.expr.Expr.{Expr}
use Rattle.sc_tree.specs.declared.stmt.Stmt.{Stmt}
use Rattle.sc_tree.specs.declared.stmt.Stmt.TheVariants as stmt
use Rattle.sc_tree.specs.declared.stmt.ForStart.{ForStart}
use Rattle.sc_tree.specs.declared.stmt.ForStart.TheVariants as first
use Rattle.sc_tree.specs.declared.grammar.Level.TheVariants.{Whole}
use Rattle.sc_tree.specs.Tables.{◌>>=◌}
use Rattle.sc_tree.specs.Tokens.{first_pos}
use Rattle.sc_tree.specs.Statements.{for_head}
use Rattle.sc_parse_front.specs.Front.{front, behind, is_left_paren, is_right_paren, is_semicolon, begins_type}
use Rattle.sc_parse_expr.specs.Read.{Read, read, Parse, node, taking}
use Rattle.sc_parse_expr.specs.Reading.Parse.{expr_at}
use Rattle.sc_parse_unit.specs.Reading.Fronts.{is_while, taking_word}
use Rattle.sc_parse_unit.specs.Reading.Declarations.{body_declaration}
use Rattle.sc_parse_unit.specs.Reading.Parts.{made, condition, at_most}

module _ (types : List NameId) (below : ℕ) (inner : Parse Stmt) where
  unfoldable pub a_while : Pos → Parse Stmt
  a_while p ts = condition types below inner ts >>= λ c. inner c.rest >>= λ x. made types below inner (stmt.While c.it x.it p) (max c.height x.height) x.rest

  -- `while` and its condition
  unfoldable pub do_test : Parse Expr
  do_test ts = taking_word is_while ts >>= λ rest. condition types below inner rest

  -- behind the statement of a `do`
  unfoldable pub do_rest : Pos → Read Stmt → Option (Read Stmt)
  do_rest p x = do_test x.rest >>= λ c. taking is_semicolon c.rest >>= λ more.
      made types below inner (stmt.Do x.it c.it p) (max x.height c.height) more

  unfoldable pub a_do : Pos → Parse Stmt
  a_do p ts = inner ts >>= λ x. do_rest p x

  unfoldable pub for_expr : Parse ForStart
  for_expr ts = expr_at types below Whole ts >>= λ a. taking is_semicolon a.rest >>= λ rest. Some (read (first.Expr a.it.tree) a.height rest)

  unfoldable pub for_local : Parse ForStart
  for_local ts = body_declaration types below ts >>= λ t. node below (first.Decl t.it (first_pos ts)) t.height t.rest

  unfoldable pub for_start : Parse ForStart
  for_start ts = if is_semicolon (front ts) then Some (read first.Nothing 0 (behind ts)) else (if begins_type types ts then for_local ts else for_expr ts)

  -- behind the second `;` of a `for`
  unfoldable pub for_last : Pos → Read ForStart → Read (Option Expr) → Parse Stmt
  for_last p f c ts = at_most types below inner is_right_paren ts >>= λ e. taking is_right_paren e.rest >>= λ closed. inner closed >>= λ x.
      made types below inner (stmt.For (for_head f.it c.it e.it) x.it p) (max f.height (max c.height (max e.height x.height))) x.rest

  -- behind what stands in the first place of a `for`
  unfoldable pub for_rest : Pos → Read ForStart → Option (Read Stmt)
  for_rest p f = at_most types below inner is_semicolon f.rest >>= λ c. taking is_semicolon c.rest >>= λ more. for_last p f c more

  unfoldable pub for_begin : Parse ForStart
  for_begin ts = taking is_left_paren ts >>= λ opened. for_start opened

  unfoldable pub a_for : Pos → Parse Stmt
  a_for p ts = for_begin ts >>= λ f. for_rest p f
