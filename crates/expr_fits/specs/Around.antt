-- What contracts see of what a walk reads.
use Rattle.std.specs.Prelude.{List}
use Rattle.gl_store.specs.declared.values.Val.{Val}
use Rattle.sc_typed.specs.declared.expr.TExpr.{TExpr}
use Rattle.sc_world.specs.Tree.{Exp}
use Rattle.sc_world.specs.Source.{Source}
use Rattle.sc_world.specs.Layout.{Layout}
use Rattle.sc_world.specs.View.{exp}
use Rattle.layout_base.specs.Seen as laid
use Rattle.run_world.specs.Seen as seen
use Rattle.expr_fits.specs.declared.around.Around.{Around}

abbrev pub source_of : Around → Source
source_of a = (seen.env a.here.now).source

abbrev pub layout_of : Around → Layout
layout_of a = (seen.env a.here.now).layout

-- the layout that the look-ups are made in
abbrev pub looked_in : Around → Layout
looked_in a = laid.layout_of a.layout.now.places.now

abbrev pub temps_of : Around → List Val
temps_of a = a.temps.now

abbrev pub exp_of : Around → TExpr → Exp
exp_of a e = exp (source_of a).structs e
