-- Statements (C11 6.8): what a statement is once its expressions are typed. `if`, loops and `switch` are blocks,
-- and so are the statements in them (C11 6.8.4, 6.8.5).
use Rattle.std.specs.Prelude.{Bool, true, false, Option, Some, None, List, [], ◌∷◌}
use Rattle.sc_base.specs.declared.pos.Pos.{Pos}
use Rattle.sc_tree.specs.declared.ctype.CType.{CType}
use Rattle.sc_tree.specs.declared.expr.Expr.{Expr}
use Rattle.sc_tree.specs.declared.stmt.Stmt.{Stmt, Stmt-F}
use Rattle.sc_tree.specs.declared.stmt.Stmt.TheFolds.{fold-Stmt}
use Rattle.sc_tree.specs.declared.stmt.ForStart.{ForStart}
use Rattle.sc_tree.specs.declared.stmt.ForStart.TheVariants as start
use Rattle.sc_typed.specs.declared.expr.TExpr.{TExpr}
use Rattle.sc_typed.specs.declared.stmt.TStmt.{TStmt}
use Rattle.sc_typed.specs.declared.stmt.TStmt.TheVariants as st
use Rattle.sc_typed.specs.declared.stmt.TForStart.{TForStart}
use Rattle.sc_typed.specs.declared.stmt.TForStart.TheVariants as tstart
use Rattle.sc_rules.specs.Walks.{Check, ◌>>=◌, done, given, scoped}
use Rattle.sc_rules.specs.Conversions.{type_of}
use Rattle.sc_statements.specs.Forms.{all_items, block_of, expression_of, if_of, if_else_of, while_of, do_of}
use Rattle.sc_statements.specs.Forms.{optional, start_of, for_of, switch_of, label_of}
use Rattle.sc_statements.specs.Choices.{choices_differ}
use Rattle.sc_statements.specs.Statements.{scalar, switched, statement, case_of, jump, return_as}
use Rattle.sc_typing.specs.Here.{Here}
use Rattle.sc_typing.specs.Typing.{typing, valued}
use Rattle.sc_declarations.specs.Declarations.{declaration}

-- What stands round a statement.
pub record Inside : Type 0 where
  -- the result of the function, if it is known
  pub result : Option CType
  -- a loop, to which `continue` belongs
  pub loop : Bool
  -- a loop or a `switch`, which `break` leaves
  pub leaves : Bool
  -- the type of the `switch`, if it is known
  pub switch : Option CType

abbrev pub in_loop : Inside → Inside
in_loop s = record s { loop = true; leaves = true }

abbrev pub in_switch : Option TExpr → Inside → Inside
in_switch None s = record s { leaves = true; switch = None }
in_switch (Some e) s = record s { leaves = true; switch = Some (type_of e) }

-- A statement: typed in a scope of its own where it is a block, and without one, as the body of a function is.
pub record Stating : Type 0 where
  pub run : Inside → Check (Option TStmt)
  pub bare : Inside → Check (Option TStmt)

abbrev pub items : List Stating → Inside → Check (List (Option TStmt))
items [] s = done []
items (x ∷ xs) s = do
  y ← x.run s
  ys ← items xs s
  done (y ∷ ys)

abbrev pub block : List Stating → Pos → Pos → Inside → Check (Option TStmt)
block xs from to s = items xs s >>= λ ys. done (block_of from to (all_items ys))

abbrev pub switch_body : List Stating → Inside → Check (Option (List TStmt))
switch_body xs s = do
  ys ← items xs s
  _ ← choices_differ ys []
  done (all_items ys)

module _ (here : Here) where
  abbrev pub condition : Pos → Expr → Check (Option TExpr)
  condition at e = valued (typing here e) >>= λ x. given x (scalar at)

  abbrev pub if_statement : Pos → Expr → Stating → Option Stating → Inside → Check (Option TStmt)
  if_statement at e x None s = do
    c ← condition at e
    y ← scoped (x.run s)
    done (if_of at c y)
  if_statement at e x (Some z) s = do
    c ← condition at e
    y ← scoped (x.run s)
    t ← scoped (z.run s)
    done (if_else_of at c y t)

  abbrev pub while_statement : Pos → Expr → Stating → Inside → Check (Option TStmt)
  while_statement at e x s = do
    c ← condition at e
    y ← scoped (x.run (in_loop s))
    done (while_of at c y)

  abbrev pub do_statement : Pos → Stating → Expr → Inside → Check (Option TStmt)
  do_statement at x e s = do
    y ← scoped (x.run (in_loop s))
    c ← condition at e
    done (do_of at y c)

  abbrev pub for_start : ForStart → Check (Option TForStart)
  for_start start.Nothing = done (Some tstart.Nothing)
  for_start (start.Expr e) = valued (typing here e) >>= λ x. done (start_of x)
  for_start (start.Decl d at) = declaration here false d >>= λ ds. done (Some (tstart.Decl ds at))

  abbrev pub condition_if : Pos → Option Expr → Check (Option (Option TExpr))
  condition_if at None = done (Some None)
  condition_if at (Some e) = condition at e >>= λ x. done (optional x)

  abbrev pub value_if : Option Expr → Check (Option (Option TExpr))
  value_if None = done (Some None)
  value_if (Some e) = valued (typing here e) >>= λ x. done (optional x)

  abbrev pub for_statement : Pos → ForStart → Option Expr → Option Expr → Stating → Inside → Check (Option TStmt)
  for_statement at f c n x s = do
    g ← for_start f
    d ← condition_if at c
    m ← value_if n
    y ← scoped (x.run (in_loop s))
    done (for_of at g d m y)

  abbrev pub switch_statement : Pos → Pos → Expr → List Stating → Inside → Check (Option TStmt)
  switch_statement at to e xs s = do
    x ← valued (typing here e)
    y ← given x (switched at)
    ss ← scoped (switch_body xs (in_switch y s))
    done (switch_of at to y ss)

  abbrev pub case_statement : Pos → Expr → Inside → Check (Option TStmt)
  case_statement at e s = do
    x ← valued (typing here e)
    given x (case_of here.widths at s.switch)

  abbrev pub return_statement : Pos → Option Expr → Inside → Check (Option TStmt)
  return_statement at None s = statement (st.Return None at)
  return_statement at (Some e) s = valued (typing here e) >>= λ x. given x (return_as here.widths at s.result)

  abbrev pub expression_statement : Pos → Option Expr → Check (Option TStmt)
  expression_statement at None = statement (st.Expr None at)
  expression_statement at (Some e) = valued (typing here e) >>= λ x. done (expression_of at x)

  -- a statement that is no block
  abbrev pub plain : (Inside → Check (Option TStmt)) → Stating
  plain m = record { run = m; bare = m }

  abbrev pub scoped_block : (Inside → Check (Option TStmt)) → Stating
  scoped_block m = record { run = λ s. scoped (m s); bare = m }

  abbrev pub stmt_step : Stmt-F Stating → Stating
  stmt_step (Stmt-F.Block xs from to) = scoped_block (block xs from to)
  stmt_step (Stmt-F.Decl d at) = plain (λ s. declaration here false d >>= λ ds. statement (st.Decl ds at))
  stmt_step (Stmt-F.Expr e at) = plain (λ s. expression_statement at e)
  stmt_step (Stmt-F.If e x y at) = plain (λ s. scoped (if_statement at e x y s))
  stmt_step (Stmt-F.While e x at) = plain (λ s. scoped (while_statement at e x s))
  stmt_step (Stmt-F.Do x e at) = plain (λ s. scoped (do_statement at x e s))
  stmt_step (Stmt-F.For h x at) = plain (λ s. scoped (for_statement at h.start h.test h.step x s))
  stmt_step (Stmt-F.Switch e xs at to) = plain (λ s. scoped (switch_statement at to e xs s))
  stmt_step (Stmt-F.Case e at) = plain (case_statement at e)
  stmt_step (Stmt-F.Default at) = plain (λ s. statement (st.Default at))
  stmt_step (Stmt-F.Goto name at) = plain (λ s. statement (st.Goto name at))
  stmt_step (Stmt-F.Break at) = plain (λ s. jump s.leaves (st.Break at) at)
  stmt_step (Stmt-F.Continue at) = plain (λ s. jump s.loop (st.Continue at) at)
  stmt_step (Stmt-F.Return e at) = plain (return_statement at e)
  stmt_step (Stmt-F.Label name x at) = plain (λ s. x.run s >>= λ y. done (label_of name at y))

  abbrev pub stating : Stmt → Stating
  stating = fold-Stmt Stating stmt_step
