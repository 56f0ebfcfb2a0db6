use Rattle.std.proofs.Common.{length}
use Rattle.run_world.specs.Seen as seen
use Rattle.gate_places.proofs.Membering.{mapped_none, mapped_step, mapped_whole}
use Rattle.gate_sets.specs.States.{state_target}
use Rattle.gate_sets.proofs.states.state_targets.Goals as goal

pub loop-pair-init : goal.loop-pair-init
loop-pair-init c =
    record { so_far = mapped_none (λ t. state_target (length (seen.env c.args.here.now).layout.locations) t) c.args.pairs.now _ c.new-targets.ensures.items }

pub loop-pair-preserved : goal.loop-pair-preserved
loop-pair-preserved c =
    record {
      so_far =
          mapped_step (λ t. state_target (length (seen.env c.args.here.now).layout.locations) t) c.args.pairs.now c.loop-pair.pair-index _ _ _ c.in_ok-target.target
          c.loop-pair-test.true c.in_ok-push.ensures.items c.in_ok-target.ensures c.loop-pair.invariant.so_far;
    }

pub returns : goal.returns
returns c =
    mapped_whole (λ t. state_target (length (seen.env c.args.here.now).layout.locations) t) c.args.pairs.now c.loop-pair.pair-index _ c.loop-pair-test.false
    c.loop-pair.invariant.so_far
