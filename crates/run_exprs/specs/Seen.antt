-- What contracts see of a call that is made.
use Rattle.std.specs.Prelude.{Option, List, map}
use Rattle.sc_base.specs.declared.pos.NameId.{NameId}
use Rattle.sc_tree.specs.declared.expr.Place.{Place}
use Rattle.sc_typed.specs.declared.expr.TExpr.{TExpr}
use Rattle.sum_rows.specs.declared.report.What.TheVariants as what
use Rattle.run_store.specs.Concrete.{Cell}
use Rattle.sc_world.specs.Tree.{Ty, Exps}
use Rattle.sc_world.specs.Source.{Struct}
use Rattle.sc_world.specs.Layout.{site_at, occurrence_at}
use Rattle.sc_world.specs.View.{exp, exps}
use Rattle.sc_world.specs.World.{Run, Env, ◌>>=◌, event}
use Rattle.sc_world.specs.Eval.{act}

-- the event of a call of that name at that place, and what it does in the turn at hand
abbrev pub made : Env → Place → Option NameId → Ty → List Cell → Run Cell
made env p name t vs = do
  _ ← event p.first (what.Call name)
  act env p.first t (occurrence_at env.layout (site_at env.layout p.token) env.turn) vs (site_at env.layout p.token).site.effect

abbrev pub arguments_of : List Struct → List TExpr → Exps
arguments_of structs es = exps (map (exp structs) es)
