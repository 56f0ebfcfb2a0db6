-- Parts of statements that the code has as functions of their own.
use Rattle.std.specs.Prelude.{false, Option}
use Rattle.sc_base.specs.declared.pos.Pos.{Pos}
use Rattle.sc_tree.specs.declared.decl.Decl.{Decl}
use Rattle.sc_tree.specs.declared.expr.Expr.{Expr}
use Rattle.sc_typed.specs.declared.expr.TExpr.{TExpr}
use Rattle.sc_typed.specs.declared.stmt.TStmt.{TStmt}
use Rattle.sc_typed.specs.declared.stmt.TStmt.TheVariants as st
use Rattle.sc_rules.specs.Walks.{Check, ◌>>=◌, done, given, close_scope}
use Rattle.sc_statements.specs.Forms.{if_else_of}
use Rattle.sc_statements.specs.Statements.{switched, statement}
use Rattle.sc_typing.specs.Here.{Here}
use Rattle.sc_typing.specs.Typing.{typing, valued}
use Rattle.sc_declarations.specs.Declarations.{declaration}

-- the number of a `switch`
abbrev pub switch_number : Here → Pos → Expr → Check (Option TExpr)
switch_number here at e = valued (typing here e) >>= λ x. given x (switched at)

-- a declaration in a body
abbrev pub declaration_statement : Here → Decl → Pos → Check (Option TStmt)
declaration_statement here d at = declaration here false d >>= λ ds. statement (st.Decl ds at)

-- `if` with `else` of its parts, at the end of its scope
abbrev pub closed_if_else : Pos → Option TExpr → (s t : Option TStmt) → Check (Option TStmt)
closed_if_else at c s t = close_scope >>= λ _. done (if_else_of at c s t)
