-- What several kinds of statements have in them.
use Rattle.std.specs.Prelude.{ℕ, suc, Bool, List, Option, Some, None, if◌then◌else◌}
use Rattle.sc_base.specs.declared.pos.NameId.{NameId}
use Rattle.sc_tree.specs.declared.token.Token.{Token}
use Rattle.sc_tree.specs.declared.token.Punct.{Punct}
use Rattle.sc_tree.specs.declared.expr.Expr.{Expr}
use Rattle.sc_tree.specs.declared.stmt.Stmt.{Stmt}
use Rattle.sc_tree.specs.declared.grammar.Level.TheVariants.{Whole}
use Rattle.sc_tree.specs.Tables.{◌>>=◌}
use Rattle.sc_parse_front.specs.Front.{front, is_left_paren, is_right_paren}
use Rattle.sc_parse_expr.specs.Read.{Read, read, Parse, node, taking}
use Rattle.sc_parse_expr.specs.Reading.Parse.{expr_at}

module _ (types : List NameId) (below : ℕ) (inner : Parse Stmt) where
  abbrev pub made : Stmt → ℕ → List Token → Option (Read Stmt)
  made x h ts = node (suc below) x h ts

  -- an expression in round brackets
  unfoldable pub condition : Parse Expr
  condition ts = taking is_left_paren ts >>= λ rest. expr_at types below Whole rest >>= λ c. taking is_right_paren c.rest >>= λ more.
      Some (read c.it.tree c.height more)

  -- an expression or none, up to where the test says that it ends
  unfoldable pub at_most : (Option Punct → Bool) → Parse (Option Expr)
  at_most ends ts = if ends (front ts) then Some (read None 0 ts) else (expr_at types below Whole ts >>= λ a. Some (read (Some a.it.tree) a.height a.rest))
