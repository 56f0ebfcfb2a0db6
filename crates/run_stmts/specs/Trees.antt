-- Trees as contracts see them: what the definitions match on.
use Rattle.std.specs.Prelude.{Option, List}
use Rattle.sc_typed.specs.declared.expr.TExpr.{TExpr}
use Rattle.sc_typed.specs.declared.stmt.TStmt.{TStmt}
use Rattle.sc_typed.specs.declared.stmt.TForStart.{TForStart}
use Rattle.sc_world.specs.Tree.{Exp, Start, Stm, Stms}
use Rattle.sc_world.specs.View as view
use Rattle.sc_gather.specs.Seen.{statements_of}
use Rattle.run_world.specs.declared.pointers.Here.{Here}
use Rattle.run_world.specs.Seen.{env}

abbrev pub exp_if_of : Here → Option TExpr → Option Exp
exp_if_of h e = view.exp_if (env h).source.structs e

abbrev pub start_of : Here → TForStart → Start
start_of h s = view.start_of (env h).source.structs s

abbrev pub stm_of : Here → TStmt → Stm
stm_of h s = view.stm (env h).source.structs s

abbrev pub stms_of : Here → List TStmt → Stms
stms_of h xs = statements_of (env h).source.structs xs
