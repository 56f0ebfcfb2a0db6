use Rattle.std.proofs.Common.{sym, ◌∙◌, ap}
use Rattle.sc_typed.specs.declared.expr.TExpr.{TExpr}
use Rattle.run_values.specs.Seen.{want_of}
use Rattle.expr_fits.specs.Around.{exp_of}
use Rattle.tr_walk.proofs.Own as own
use Rattle.tr_walk.proofs.sides.first.Goals as goal

pub returns-clause-can : goal.returns-clause-can
returns-clause-can c =
    own.first_is c.args.around.now (want_of c.args.want) (exp_of c.args.around.now c.args.e.now) (exp_of c.args.around.now c.get.result.now)
    (want_of c.first_wanted-want.result) c.requires.some c.requires.can c.first_wanted-want.ensures
    (c.requires.is ∙ ap (λ (z : TExpr). exp_of c.args.around.now z) (sym c.get.ensures))

pub returns-clause-operand : goal.returns-clause-operand
returns-clause-operand c = ap (λ (z : TExpr). exp_of c.args.around.now z) c.get.ensures ∙ sym c.requires.is
