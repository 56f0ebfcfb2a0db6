use Rattle.run_world.specs.Seen.{env, world}
use Rattle.sc_interp.proofs.Runs.{fits_still, slots_stay}
use Rattle.sc_interp.proofs.machine.run_with.Goals as goal

pub returns-clause-slots : goal.returns-clause-slots
returns-clause-slots c =
    slots_stay c.args.here.now (world c.begin.new.world) c.run_body-result.result c.run_body-result.new.world
    c.requires.turn c.begin.ensures.world c.requires.long c.run_body-result.ensures.run

pub returns-clause-fits : goal.returns-clause-fits
unfolding env
returns-clause-fits c =
    fits_still _ _ c.run_body-result.new.calls.buffer.most c.run_body-result.ensures.reads
    c.run_body-result.new.calls.fits
