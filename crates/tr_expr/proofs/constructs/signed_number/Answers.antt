use Rattle.sc_world.specs.View.{type}
use Rattle.run_world.specs.Seen.{env}
use Rattle.tr_expr.proofs.Making.{signed_value}
use Rattle.tr_expr.proofs.constructs.signed_number.Goals as goal

pub returns-clause-ok : goal.returns-clause-ok
returns-clause-ok c =
    signed_value (env c.args.here.now).source c.signed_as.new.net c.args.op (type c.args.from.now) (type c.args.t.now) c.args.x.now c.in_ok-made.made
    c.requires.op c.requires.fits c.requires.kind c.in_ok-made.ensures.ok
