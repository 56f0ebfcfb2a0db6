use Rattle.run_world.specs.Seen as seen
use Rattle.gate_places.proofs.Membering.{mapped_none, mapped_step, mapped_whole}
use Rattle.gate_objects.specs.Escapes.{object_target}
use Rattle.gate_objects.proofs.escapes.object_targets.Goals as goal

pub loop-pair-init : goal.loop-pair-init
loop-pair-init c = record { so_far = mapped_none (λ t. object_target (seen.env c.args.here.now).layout t) c.args.pairs.now _ c.new-targets.ensures.items }

pub loop-pair-preserved : goal.loop-pair-preserved
loop-pair-preserved c =
    record {
      so_far =
          mapped_step (λ t. object_target (seen.env c.args.here.now).layout t) c.args.pairs.now c.loop-pair.pair-index _ _ _ c.in_ok-target.target
          c.loop-pair-test.true c.in_ok-push.ensures.items c.in_ok-target.ensures c.loop-pair.invariant.so_far;
    }

pub returns : goal.returns
returns c = mapped_whole (λ t. object_target (seen.env c.args.here.now).layout t) c.args.pairs.now c.loop-pair.pair-index _ c.loop-pair-test.false c.loop-pair.invariant.so_far
