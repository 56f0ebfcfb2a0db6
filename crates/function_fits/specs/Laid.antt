-- What contracts see of a function that is laid out, and of its trees.
use Rattle.std.specs.Prelude.{[], Option, List, map}
use Rattle.sc_typed.specs.declared.expr.TExpr.{TExpr}
use Rattle.sc_typed.specs.declared.stmt.TDeclarator.{TDeclarator}
use Rattle.sc_typed.specs.declared.stmt.TForStart.{TForStart}
use Rattle.sc_typed.specs.declared.stmt.TInit.{TInit}
use Rattle.sc_typed.specs.declared.stmt.TInitItem.{TInitItem}
use Rattle.sc_typed.specs.declared.stmt.TStmt.{TStmt}
use Rattle.sc_world.specs.Tree.{Exp, Exps, Given, Init, Dec, Start, Stm, Stms}
use Rattle.sc_world.specs.Source.{Source}
use Rattle.sc_world.specs.Layout.{Layout}
use Rattle.sc_world.specs.World.{Env}
use Rattle.sc_world.specs.Exec.{env_of}
use Rattle.sc_world.specs.View as view
use Rattle.sc_gather.specs.Seen as gathered
use Rattle.layout_base.specs.Seen as placed
use Rattle.function_fits.specs.declared.laid.Laid.{Laid}

abbrev pub source_of : Laid → Source
source_of l = gathered.source_of l.function.now

abbrev pub layout_of : Laid → Layout
layout_of l = placed.layout_of l.layout.now.places.now

-- what a way from an object to a part of it reads: no choice
abbrev pub env_in : Laid → Env
env_in l = env_of (source_of l) (layout_of l) []

abbrev pub exp_of : Laid → TExpr → Exp
exp_of l e = view.exp (source_of l).structs e

abbrev pub exp_if_of : Laid → Option TExpr → Option Exp
exp_if_of l e = view.exp_if (source_of l).structs e

abbrev pub arguments_of : Laid → List TExpr → Exps
arguments_of l es = gathered.arguments_of (source_of l).structs es

abbrev pub given_of : Laid → TInitItem → Given
given_of l x = view.given (source_of l).structs x

abbrev pub givens_of : Laid → List TInitItem → List Given
givens_of l xs = map (view.given (source_of l).structs) xs

abbrev pub init_of : Laid → Option TInit → Init
init_of l x = view.init_if (source_of l).structs x

abbrev pub decs_of : Laid → List TDeclarator → List Dec
decs_of l ds = map (view.dec (source_of l).structs) ds

abbrev pub start_of : Laid → TForStart → Start
start_of l s = view.start_of (source_of l).structs s

abbrev pub stm_of : Laid → TStmt → Stm
stm_of l s = view.stm (source_of l).structs s

abbrev pub stms_of : Laid → List TStmt → Stms
stms_of l xs = gathered.statements_of (source_of l).structs xs
