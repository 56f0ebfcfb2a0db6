-- Which expressions, calls and nodes have gates, as a test at run time.
use Rattle.std.specs.Prelude.{ℕ, Bool, true, false, not, ◌&&◌, List, [], ◌∷◌}
use Rattle.std.specs.List.{list_all}
use Rattle.sc_world.specs.Tree.{Exp, SizeofExpr}
use Rattle.sc_world.specs.Source.{Source, Struct}
use Rattle.sc_world.specs.Layout.{Layout}
use Rattle.sc_world.specs.Eval.{is_logical}
use Rattle.sc_world.specs.View.{exp}
use Rattle.flow_graph.specs.Conditions.{is_plain, temps_of}
use Rattle.expr_fits.specs.Fits.{constants_fit}
use Rattle.expr_fits.specs.Operands.{arity_of, has_operands}
use Rattle.sc_flow.specs.declared.node.Calling.{Calling}
use Rattle.sc_flow.specs.declared.node.Expression.{Expression}
use Rattle.sc_flow.specs.declared.node.Expression.TheVariants as expr
use Rattle.sc_flow.specs.declared.node.Node.{Node}
use Rattle.sc_flow.specs.declared.node.Node.TheVariants as code
use Rattle.sc_flow.specs.Seen.{calling, expression}
use Rattle.tr_call.specs.Calls.{effect_of, has_gates}

-- Expressions.

abbrev pub is_none : List ℕ → Bool
is_none [] = true
is_none (n ∷ ns) = false

-- no part of it is kept elsewhere: it has no call, no branch, and names no temp
abbrev pub is_bare : Exp → Bool
is_bare e = is_plain e && is_none (temps_of e)

-- it may stand over kept operands: it has operands, or is the size of an expression, which is not evaluated
abbrev pub is_over : Exp → Bool
is_over (SizeofExpr a n t) = true
is_over e = has_operands (arity_of e)

-- The temps of a node's expression are those that the node names: the text names none.
abbrev pub names_temps : List Struct → Expression → Bool
names_temps structs (expr.Source e) = is_bare (exp structs e.now)
names_temps structs (expr.Over e x y) = is_over (exp structs e.now)
names_temps structs _ = true

-- The expression of a node has gates, if it fits: its temps are those that the node names, and its constants are numbers of their widths.
abbrev pub takes : Source → Expression → Bool
takes s e = names_temps s.structs e && constants_fit s (expression s.structs e)

-- Calls.

-- The call of a node has gates: it has a type that what it does can give.
abbrev pub makes : Source → Layout → Calling → Bool
makes s p c = has_gates s (calling s.structs c).result (effect_of p (calling s.structs c))

-- Nodes.

-- the expression has its type with it, as all have that give a value to a local
abbrev pub has_type : Expression → Bool
has_type expr.Nothing = false
has_type (expr.Former n t) = false
has_type _ = true

-- Whether a node has gates. The operator of an assignment is no `&&` and no `||`.
abbrev pub node_has : Source → Layout → Node → Bool
node_has s p (code.Keep want temp e next) = takes s e
node_has s p (code.KeepCells slot e next) = takes s e && has_type e
node_has s p (code.Call c args temp next) = makes s p c
node_has s p (code.Update u want place former right temp next) = not (is_logical u.op)
node_has s p (code.Set n e next) = takes s e && has_type e
node_has s p _ = true

abbrev pub all_have : Source → Layout → List Node → Bool
all_have s p nodes = list_all (node_has s p) nodes
