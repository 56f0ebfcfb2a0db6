-- What stands before and behind an operator (C11 6.5): which parts stand as they are, and which are values.
use Rattle.std.specs.Prelude.{Bool, true, false, Option, Some, if◌then◌else◌}
use Rattle.sc_tree.specs.declared.op.AssignOp.{AssignOp}
use Rattle.sc_tree.specs.declared.ctype.CType.{CType}
use Rattle.sc_tree.specs.declared.ctype.Widths.{Widths}
use Rattle.sc_tree.specs.declared.expr.Place.{Place}
use Rattle.sc_typed.specs.declared.expr.TExpr.{TExpr}
use Rattle.sc_typed.specs.Types.{is_aggregate, is_array}
use Rattle.sc_rules.specs.Walks.{Check, ◌>>=◌, done}
use Rattle.sc_rules.specs.Conversions.{type_of, value}
use Rattle.sc_assignments.specs.Assignments.{assignment}
use Rattle.sc_operators.specs.Conditionals.{comma}
use Rattle.sc_unary.specs.Operators.{size_of_expression, size_of_type}
use Rattle.sc_names.specs.Structs.{size_now}

abbrev pub comma_of : Place → TExpr → TExpr → Check (Option TExpr)
comma_of p x y = done (Some (comma p x y))

-- the right side of an assignment may have a fault in it
abbrev pub assigned : Widths → AssignOp → Place → Option TExpr → TExpr → Check (Option TExpr)
assigned w o p y x = assignment w o p x y

abbrev pub sizeof_value : Widths → Place → TExpr → Check (Option TExpr)
sizeof_value w p e = size_now w (type_of e) >>= λ n. size_of_expression w n p e

abbrev pub sizeof_type : Widths → Place → CType → Check (Option TExpr)
sizeof_type w p t = size_now w t >>= λ n. size_of_type w n p

-- an array stays one before `[`, anything else is a value
abbrev pub indexed : TExpr → Check (Option TExpr)
indexed e = if is_array (type_of e) then done (Some e) else value e

-- a struct stays one before `.`, and what `->` leads through is a value
abbrev pub accessed : (arrow : Bool) → TExpr → Check (Option TExpr)
accessed true e = value e
accessed false e = if is_aggregate (type_of e) then done (Some e) else value e
