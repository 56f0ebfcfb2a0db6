-- What a span of tokens is.
use Rattle.std.specs.Prelude.{◌≡◌, List, Option, Some, None, if◌then◌else◌}
use Rattle.sc_base.specs.declared.pos.NameId.{NameId}
use Rattle.sc_tree.specs.declared.token.Token.{Token}
use Rattle.sc_tree.specs.declared.expr.Expr.{Expr}
use Rattle.sc_tree.specs.declared.grammar.Level.TheVariants.{Whole}
use Rattle.sc_tree.specs.Trees.{IsExpr}
use Rattle.sc_tree.specs.Units.{is_empty}
use Rattle.sc_parse_expr.specs.declared.found.Operand.{Operand}
use Rattle.sc_parse_expr.specs.declared.span.Parsed.{Parsed}
use Rattle.sc_parse_expr.specs.declared.span.Parsed.TheVariants.{Tree, Not}
use Rattle.sc_parse_expr.specs.Read.{Read}

-- The tree is one that all tokens of the span spell; or they spell none.
abbrev pub IsParsed : List NameId → List Token → Parsed Expr → Type 0
IsParsed types span (Tree t) = IsExpr types Whole span t
IsParsed types span Not = (t : Expr) → IsExpr types Whole span t → ⊥

-- the tree that was read where nothing is left
abbrev pub alone : List Token → Expr → Option Expr
alone ts t = if is_empty ts then Some t else None

abbrev pub of_all : Option (Read Operand) → Option Expr
of_all (Some r) = alone r.rest r.it.tree
of_all None = None

-- the answer by what is read at the front
abbrev pub Answers : Option (Read Operand) → Parsed Expr → Type 0
Answers o (Tree t) = of_all o ≡ Some t
Answers o Not = of_all o ≡ None
