use Rattle.run_world.specs.Seen as seen
use Rattle.gate_copies.specs.Widths.{of_width}
use Rattle.gate_copies.proofs.Listing.{mapped_step, mapped_whole}
use Rattle.gate_copies.proofs.widths.of_width.Goals as goal

pub loop-target-init : goal.loop-target-init
loop-target-init c = record { so_far = c.new-made.ensures.items }

pub loop-target-preserved : goal.loop-target-preserved
loop-target-preserved c =
    record {
      so_far =
          mapped_step (λ t. of_width (seen.env c.args.here.now).source (seen.env c.args.here.now).layout c.args.number t) c.args.targets.now c.loop-target.target-index
          _ _ _ _ c.loop-target-test.true c.in_ok-push.ensures.items c.if_of_width-same.ensures c.loop-target.invariant.so_far;
    }

pub returns : goal.returns
returns c =
    mapped_whole (λ t. of_width (seen.env c.args.here.now).source (seen.env c.args.here.now).layout c.args.number t) c.args.targets.now c.loop-target.target-index _
    c.loop-target-test.false c.loop-target.invariant.so_far
