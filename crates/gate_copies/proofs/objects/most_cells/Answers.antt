use Rattle.std.proofs.Common.{map, max, length, ap, ◌∙◌}
use Rattle.std.proofs.lemmas.List.{take_all}
use Rattle.gate_copies.specs.Objects.{cells_in, most}
use Rattle.gate_copies.proofs.Listing.{most_step}
use Rattle.gate_copies.proofs.objects.most_cells.Goals as goal

pub loop-object-preserved : goal.loop-object-preserved
loop-object-preserved c =
    record {
      so_far =
          most_step cells_in c.args.objects.now c.loop-object.object-index c.object-item.result c.loop-object.most _ c.loop-object-test.true
          (c.longer-more.ensures ∙ ap (λ o. max c.loop-object.most (length (cells_in o))) c.object-item.is) c.loop-object.invariant.so_far;
    }

pub returns : goal.returns
returns c =
    c.loop-object.invariant.so_far
    ∙ ap (λ xs. most (map cells_in xs)) (take_all c.loop-object.object-index c.args.objects.now c.loop-object-test.false)
