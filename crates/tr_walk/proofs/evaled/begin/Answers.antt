use Rattle.run_values.specs.Seen.{want_of}
use Rattle.expr_fits.specs.Around.{exp_of}
use Rattle.tr_walk.proofs.Beginning.{is_evaled}
use Rattle.tr_walk.proofs.evaled.begin.Goals as goal

pub returns-clause-ok : goal.returns-clause-ok
returns-clause-ok c =
    is_evaled c.args.around.now c.args.net.now c.walk.new.net (want_of c.args.want) (exp_of c.args.around.now c.args.e.now) c.args.live.at c.args.stored.now.locations.items
    c.walk.new.stored.locations.items c.in_ok-ends.ends c.walk.new.ends c.in_ok-val.val c.in_ok-val.ensures.grown c.in_ok-ends.ensures.begun c.in_ok-val.ensures.ok
