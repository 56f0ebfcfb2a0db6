use Rattle.std.proofs.Common.{refl}
use Rattle.sc_typed.specs.declared.expr.TExpr.{out-TExpr}
use Rattle.sc_world.specs.View.{type}
use Rattle.run_values.specs.Seen.{want_of}
use Rattle.expr_fits.specs.Around.{exp_of, source_of}
use Rattle.tr_walk.proofs.Can as can
use Rattle.tr_walk.proofs.Seen as seen
use Rattle.tr_walk.proofs.sides.comma_right.Goals as goal

pub returns-clause-can : goal.returns-clause-can
returns-clause-can c =
    let tree = seen.comma (source_of c.args.around.now).structs c.args.e.now c.args.a.now c.args.b.now c.args.a.now c.get.result.now c.requires.is refl c.get.ensures in
    can.comma_right c.args.around.now (want_of c.args.want) (exp_of c.args.around.now c.args.a.now) (exp_of c.args.around.now c.get.result.now)
    (type (out-TExpr c.args.e.now).ctype) (rw tree at c.requires.can)
