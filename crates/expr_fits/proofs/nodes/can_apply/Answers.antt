-- An assignment over kept sides is one of the tree over temps.
use Rattle.std.proofs.Common.{◌≡◌, ◌&&◌, None, sym, ◌∙◌, ap}
use Rattle.sc_typed.specs.declared.expr.TExpr.{out-TExpr}
use Rattle.sc_world.specs.Tree.{Ty, Exp, type_of}
use Rattle.sc_world.specs.View.{operator, type}
use Rattle.sc_world.specs.Eval.{Place'}
use Rattle.run_laws.specs.Fits.{if_scalar}
use Rattle.run_values.specs.Seen.{want_of}
use Rattle.sc_flow.specs.Over.{over}
use Rattle.expr_fits.specs.Around.{exp_of, layout_of, source_of}
use Rattle.expr_fits.specs.Here as here
use Rattle.expr_fits.specs.Kept.{kinds_of}
use Rattle.expr_fits.proofs.Over.{assign_over, passes}
use Rattle.expr_fits.proofs.Seen as seen
use Rattle.expr_fits.proofs.nodes.can_apply.Goals as goal

pub returns-in-Assign : goal.returns-in-Assign
returns-in-Assign c =
    let ks = kinds_of c.args.kinds.now in
    let t = type (out-TExpr c.args.e.now).ctype in
    let w = type c.in-Assign.works in
    let left = exp_of c.args.around.now c.get.result.now in
    let right = exp_of c.args.around.now c.get-in-Assign.result.now in
    let tree = seen.assign (source_of c.args.around.now).structs c.args.e.now c.in-Assign.field-0 c.in-Assign.works c.in-Assign.a c.in-Assign.b c.get.result.now
    c.get-in-Assign.result.now c.in-Assign.is c.get.ensures c.get-in-Assign.ensures in
    record {
      exactly =
          c.sides_fit.ensures
          ∙ ap (λ (u : Ty). here.keeps ks c.args.x Place' u && (here.keeps ks c.args.y (if_scalar t) (type c.type_of-v.result.now)
          && here.assign_fits None w u (type c.type_of-v.result.now) t)) c.type_of-u.ensures
          ∙ ap (λ (v : Ty). here.keeps ks c.args.x Place' (type_of left) && (here.keeps ks c.args.y (if_scalar t) v
          && here.assign_fits None w (type_of left) v t)) c.type_of-v.ensures
          ∙ sym (assign_over (source_of c.args.around.now) (layout_of c.args.around.now) ks (want_of c.args.want) left right c.args.x c.args.y t
          (operator c.in-Assign.field-0) w)
          ∙ ap (λ (z : Exp). passes (source_of c.args.around.now) (layout_of c.args.around.now) ks (want_of c.args.want) (over z c.args.x c.args.y)) (sym tree);
    }
