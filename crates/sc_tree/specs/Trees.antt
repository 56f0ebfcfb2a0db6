-- When tokens spell a tree that is not too high to be one.
use Rattle.std.specs.Prelude.{◌≤◌, ℕ, List}
use Rattle.sc_base.specs.declared.pos.NameId.{NameId}
use Rattle.sc_tree.specs.declared.token.Token.{Token}
use Rattle.sc_tree.specs.declared.expr.Expr.{Expr}
use Rattle.sc_tree.specs.declared.grammar.Level.{Level}
use Rattle.sc_tree.specs.Grammar.{Spells}

-- the greatest height of a tree
abbrev pub max_height : ℕ
max_height = 128

-- the tokens spell the expression, at that level
pub record IsExpr (types : List NameId) (level : Level) (ts : List Token) (t : Expr) : Type 0 where
  pub height : ℕ
  pub low : height ≤ max_height
  pub spelled : Spells types level height t ts
