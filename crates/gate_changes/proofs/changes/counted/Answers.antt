use Rattle.sc_world.specs.View.{type}
use Rattle.run_world.specs.Seen.{env}
use Rattle.gate_changes.proofs.Changing.{counts}
use Rattle.gate_changes.proofs.changes.counted.Goals as goal

pub returns-clause-ok : goal.returns-clause-ok
returns-clause-ok c =
    counts (env c.args.here.now).source c.args.net.now c.combined.new.net c.args.step c.one_step.result (type c.args.t.now) (type c.promoted_type-works.result)
    c.integer_bits.result c.args.x.now c.in_ok-one.one c.in_ok-made.made c.args.ends.now c.combined.new.ends c.one_step.ensures c.promoted_type-works.ensures
    c.integer_bits.ensures.value c.in_ok-made.ensures.grown c.in_ok-one.ensures c.in_ok-made.ensures.ok
