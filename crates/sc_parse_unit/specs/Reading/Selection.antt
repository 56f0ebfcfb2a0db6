-- `if` and `switch` (C11 6.8.4).
use Rattle.std.specs.Prelude.{ℕ, max, true, List, Option, Some, None, if◌then◌else◌}
use Rattle.sc_base.specs.declared.pos.Pos.{Pos}
use Rattle.sc_base.specs.declared.pos.NameId.{NameId}
use Rattle.sc_tree.specs.declared.expr.Expr.{Expr}
use Rattle.sc_tree.specs.declared.stmt.Stmt.{Stmt}
use Rattle.sc_tree.specs.declared.stmt.Stmt.TheVariants as stmt
use Rattle.sc_tree.specs.Tables.{◌>>=◌}
use Rattle.sc_tree.specs.Tokens.{first_pos}
use Rattle.sc_parse_front.specs.Front.{front_reserved, behind, is_left_brace}
use Rattle.sc_parse_expr.specs.Read.{Read, Parse, taking}
use Rattle.sc_parse_unit.specs.Reading.Fronts.{is_else}
use Rattle.sc_parse_unit.specs.Reading.Parts.{made, condition}
use Rattle.sc_parse_unit.specs.Reading.Blocks.{items}

module _ (types : List NameId) (below : ℕ) (inner : Parse Stmt) where
  unfoldable pub if_else : Pos → Read Expr → Read Stmt → Option (Read Stmt)
  if_else p c x = inner (behind x.rest) >>= λ y. made types below inner (stmt.If c.it x.it (Some y.it) p) (max c.height (max x.height y.height)) y.rest

  unfoldable pub if_rest : Pos → Read Expr → Read Stmt → Option (Read Stmt)
  if_rest p c x = if is_else (front_reserved x.rest) then if_else p c x else made types below inner (stmt.If c.it x.it None p) (max c.height x.height) x.rest

  unfoldable pub an_if : Pos → Parse Stmt
  an_if p ts = condition types below inner ts >>= λ c. inner c.rest >>= λ x. if_rest p c x

  unfoldable pub a_switch : Pos → Parse Stmt
  a_switch p ts = condition types below inner ts >>= λ c. taking is_left_brace c.rest >>= λ rest. items types below inner true rest >>= λ xs.
      made types below inner (stmt.Switch c.it xs.it p (first_pos xs.rest)) (max c.height xs.height) (behind xs.rest)
