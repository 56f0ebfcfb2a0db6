-- Rules of statements (C11 6.8) on expressions that have their types.
use Rattle.std.specs.Prelude.{ℕ, Bool, true, false, Option, Some, None, if◌then◌else◌}
use Rattle.sc_base.specs.declared.pos.Pos.{Pos}
use Rattle.sc_base.specs.declared.skip.IllTyped.TheVariants as i
use Rattle.sc_tree.specs.declared.ctype.CType.{CType}
use Rattle.sc_tree.specs.declared.ctype.Widths.{Widths}
use Rattle.sc_typed.specs.declared.expr.TExpr.{TExpr}
use Rattle.sc_typed.specs.declared.stmt.TStmt.{TStmt}
use Rattle.sc_typed.specs.declared.stmt.TStmt.TheVariants as st
use Rattle.sc_typed.specs.Types.{is_integer, is_scalar, is_void}
use Rattle.sc_typed.specs.Arith.{converted as number_converted}
use Rattle.sc_typed.specs.Constants.{constant_bits}
use Rattle.sc_rules.specs.Walks.{Check, ◌>>=◌, done, ill_typed}
use Rattle.sc_rules.specs.Conversions.{type_of, promote, converted}

-- the fault of a condition that is no scalar stands at the keyword
abbrev pub scalar : Pos → TExpr → Check (Option TExpr)
scalar at e = if is_scalar (type_of e) then done (Some e) else ill_typed i.Operand at

-- the number of a `switch` is promoted (C11 6.8.4.2)
abbrev pub switched : Pos → TExpr → Check (Option TExpr)
switched at e = if is_integer (type_of e) then done (Some (promote e)) else ill_typed i.Operand at

abbrev pub no_statement : Check (Option TStmt)
no_statement = done None

abbrev pub statement : TStmt → Check (Option TStmt)
statement s = done (Some s)

-- the number of a `case` is converted to the type of its `switch`, where that is known
abbrev pub case_number : Widths → Pos → Option CType → TExpr → Option ℕ → Check (Option TStmt)
case_number w at t e None = ill_typed i.Constant at
case_number w at None e (Some n) = no_statement
case_number w at (Some t) e (Some n) = statement (st.Case (number_converted w (type_of e) t n) e at)

-- a `case`, which is for a constant
abbrev pub case_of : Widths → Pos → Option CType → TExpr → Check (Option TStmt)
case_of w at t e = case_number w at t e (constant_bits w e)

-- `break` and `continue` stand in what they leave (C11 6.8.6)
abbrev pub jump : Bool → TStmt → Pos → Check (Option TStmt)
jump true s at = statement s
jump false s at = ill_typed i.Constant at

abbrev pub returned : Pos → Option TExpr → Option TStmt
returned at None = None
returned at (Some e) = Some (st.Return (Some e) at)

-- in a function without a result
abbrev pub return_void : Pos → TExpr → Check (Option TStmt)
return_void at e = if is_void (type_of e) then statement (st.Return (Some e) at) else ill_typed i.Return at

-- a `return` gives a value of the function's result, and none in a void function but a void one (C11 6.8.6.4)
abbrev pub return_as : Widths → Pos → Option CType → TExpr → Check (Option TStmt)
return_as w at None e = no_statement
return_as w at (Some t) e =
    if is_void t then return_void at e else (converted w i.Return at t e >>= λ x. done (returned at x))
