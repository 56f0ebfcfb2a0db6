use Rattle.std.proofs.Common.{sym, ap, ◌∙◌}
use Rattle.gate_copies.specs.Objects.{cell_with, cells_in}
use Rattle.gate_copies.proofs.Listing.{map_twice, mapped_step, mapped_whole}
use Rattle.gate_copies.proofs.objects.cells_with.Goals as goal

pub loop-object-init : goal.loop-object-init
loop-object-init c = record { so_far = c.new-targets.ensures.items }

pub loop-object-preserved : goal.loop-object-preserved
loop-object-preserved c =
    record {
      so_far =
          mapped_step (λ o. cell_with o.cells.items c.args.number) c.args.objects.now c.loop-object.object-index c.object-item.result _ _ _
          c.loop-object-test.true c.in_ok-push.ensures.items
          (c.cell_with-target.ensures ∙ ap (λ o. cell_with o.cells.items c.args.number) c.object-item.is) c.loop-object.invariant.so_far;
    }

pub returns : goal.returns
returns c =
    mapped_whole (λ o. cell_with o.cells.items c.args.number) c.args.objects.now c.loop-object.object-index _ c.loop-object-test.false
    c.loop-object.invariant.so_far
    ∙ sym (map_twice (λ cells. cell_with cells c.args.number) cells_in c.args.objects.now)
