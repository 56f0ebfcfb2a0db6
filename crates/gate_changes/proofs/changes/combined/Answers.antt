use Rattle.sc_world.specs.View.{type}
use Rattle.run_world.specs.Seen.{env}
use Rattle.gate_changes.proofs.Changing.{combines}
use Rattle.gate_changes.proofs.changes.combined.Goals as goal

pub returns-clause-ok : goal.returns-clause-ok
returns-clause-ok c =
    combines (env c.args.here.now).source c.converted.new.net c.operation.new.net c.converted-2.new.net c.args.op (type c.args.works.now) (type c.args.t.now)
    c.args.x.now c.args.y.now c.in_ok-left.left c.in_ok-made.made c.in_ok-back.back c.args.ends.now c.operation.new.ends c.in_ok-made.ensures.grown
    c.in_ok-back.ensures.grown c.in_ok-left.ensures.ok c.in_ok-made.ensures.ok c.in_ok-back.ensures.ok
