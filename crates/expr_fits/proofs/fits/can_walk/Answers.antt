use Rattle.run_values.specs.Seen.{want_of}
use Rattle.expr_fits.specs.Around.{exp_of, looked_in}
use Rattle.expr_fits.specs.Kept.{kinds_of}
use Rattle.expr_fits.proofs.Walking.{walks_by}
use Rattle.expr_fits.proofs.fits.can_walk.Goals as goal

pub returns-then-constants_fit-clause-walks : goal.returns-then-constants_fit-clause-walks
returns-then-constants_fit-clause-walks c =
    walks_by c.args.around.now (looked_in c.args.around.now) (kinds_of c.args.kinds.now) (want_of c.args.want) (exp_of c.args.around.now c.args.e.now)
    c.is_plain.result c.constants_fit.result c.fits.result c.requires.same c.is_plain.ensures c.if-is_plain.true c.constants_fit.ensures
    c.if-constants_fit.true c.fits.ensures
