use Rattle.sc_world.specs.View.{type}
use Rattle.run_world.specs.Seen.{env}
use Rattle.tr_expr.proofs.Making.{operation_does}
use Rattle.tr_expr.proofs.constructs.operation.Goals as goal

pub returns-clause-ok : goal.returns-clause-ok
returns-clause-ok c =
    operation_does (env c.args.here.now).source c.operated.new.net c.args.op (type c.args.left.now) (type c.args.right.now) (type c.args.t.now)
    c.has_sign-sign.result c.integer_bits-bits.result c.args.x.now c.args.y.now c.in_ok-made.made c.args.ends.now c.operated.new.ends c.requires.fits
    c.requires.left c.requires.right c.has_sign-sign.ensures c.integer_bits-bits.ensures.value c.in_ok-made.ensures.ok
