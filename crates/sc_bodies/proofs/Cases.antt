-- A `case` with its value, by the widths that the code has read.
use Rattle.std.proofs.Common.{◌≡◌, Option, Some, Result}
use Rattle.sc_base.specs.declared.pos.Pos.{Pos}
use Rattle.sc_tree.specs.declared.ctype.CType.{CType}
use Rattle.sc_tree.specs.declared.ctype.Widths.{Widths}
use Rattle.sc_typed.specs.declared.expr.TExpr.{TExpr}
use Rattle.sc_typed.specs.declared.stmt.TStmt.{TStmt}
use Rattle.sc_rules.specs.declared.walk.Walk.{Walk}
use Rattle.sc_rules.specs.Gives.{Gives}
use Rattle.sc_rules.specs.Walks.{given}
use Rattle.sc_statements.specs.Statements.{case_of}

pub case_given : {E : Type 0} (e : Option TExpr) (x : TExpr) (read w : Widths) (at : Pos) (t : Option CType)
    (u : Walk) (r : Result (Option TStmt) E) (v : Walk)
    → e ≡ Some x → read ≡ w → Gives (case_of read at t x u) r v → Gives (given e (case_of w at t) u) r v
case_given e x read w at t u r v is same gives = rw is (rw (← same) gives)
